-- What a call gave, as a line of text.
use Rattle.std.specs.Prelude.{ℕ, ◌+◌, List, [], ◌∷◌, ◌++◌, map, Ok, Err, Result}
use Rattle.codes.specs.Codes.{code_number}
use Rattle.codes.specs.Coded.{byte_of}
use Rattle.codes.specs.Commands.{command_number}
use Rattle.codes.specs.Refusals.{refusal_number}
use Rattle.codes.specs.declared.refusal.Refusal.{Refusal}
use Rattle.digits.specs.Digits.{hex_text}
use Rattle.packet.specs.declared.response.Outcome.{Outcome}
use Rattle.machine.specs.Answers.{Step, bytes_of}
use Rattle.machine.specs.State.{State}

-- an outcome: the byte of its command and that of its code
abbrev pub outcome_text : Outcome → List ℕ
outcome_text o = hex_text (byte_of command_number o.command ∷ code_number o.code ∷ [])

-- outcomes, with a blank (32) between two
abbrev pub outcomes_text : List Outcome → List ℕ
outcomes_text [] = []
outcomes_text (o ∷ []) = outcome_text o
outcomes_text (o ∷ p ∷ os) = outcome_text o ++ 32 ∷ outcomes_text (p ∷ os)

-- outcomes, a colon (58) and the written bytes
abbrev pub answer_text : List Outcome → List ℕ → List ℕ
answer_text outcomes written = outcomes_text outcomes ++ 58 ∷ hex_text written

-- an exclamation mark (33) and the number, which has one decimal digit (the digit 0 is 48)
abbrev pub refusal_text : Refusal → List ℕ
refusal_text refusal = 33 ∷ (48 + refusal_number refusal) ∷ []

-- what the machine gives
abbrev pub line_of : State → Result Step Refusal → List ℕ
line_of s (Ok x) = answer_text (map (λ y. y.outcome) x.said) (bytes_of s.own x.said)
line_of s (Err e) = refusal_text e
