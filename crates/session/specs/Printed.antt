-- What the bench prints of what a call gave.
use Rattle.std.specs.Prelude.{ℕ, List, [], ◌∷◌, take, Some, None, Ok, Err, Option, Result}
use Rattle.codes.specs.declared.refusal.Refusal.{Refusal}
use Rattle.engine.specs.Seen.{listed}
use Rattle.engine.specs.declared.answer.Answer.{Answer}
use Rattle.machine.specs.Printed.{answer_text, refusal_text}

-- what a call gave, with its answer at the front of the buffer
abbrev pub given_text : Result Answer Refusal → List ℕ → List ℕ
given_text (Ok answer) out = answer_text (listed answer.outcomes) (take answer.count out)
given_text (Err refusal) out = refusal_text refusal

-- a question mark (63) where no call was made
abbrev pub unasked : List ℕ
unasked = 63 ∷ []

abbrev pub printed : Option (Result Answer Refusal) → List ℕ → List ℕ
printed (Some given) out = given_text given out
printed None out = unasked
