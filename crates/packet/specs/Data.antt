use Rattle.std.specs.Prelude.{ℕ, ◌+◌, Bool, true, false, cond, ◌&&◌, List, [], ◌∷◌, ◌++◌, length, take, drop, Ok}
use Rattle.std.specs.Prelude.{Err, Result, ◌==◌, nat_lt, slice_index}
use Rattle.std.specs.Borrow.{Bor}
use Rattle.codes.specs.declared.command.Command.{Command}
use Rattle.codes.specs.declared.command.Command.TheVariants.{
  EnrollTemplate,
  Unlock,
  ChangePassword,
  ListTemplates,
  ReadTemplate,
}
use Rattle.codes.specs.declared.code.Code.{Code}
use Rattle.codes.specs.declared.code.Code.TheVariants.{Success}
use Rattle.codes.specs.declared.numbered.Coded.{Coded}
use Rattle.codes.specs.declared.numbered.Coded.TheVariants.{Known, Unknown}
use Rattle.codes.specs.declared.refusal.Refusal.{Refusal}
use Rattle.codes.specs.declared.refusal.Refusal.TheVariants.{DataLength}
use Rattle.codes.specs.Codes.{code_number}
use Rattle.codes.specs.Commands.{command_number}
use Rattle.codes.specs.Numbers.{among}

-- whether what was read is one of some cases
abbrev pub known_among : {C : Type 0} → (C → ℕ) → List C → Coded C → Bool
known_among number_of cs (Known c) = among number_of cs c
known_among number_of cs (Unknown n) = false

-- the requests that carry data
abbrev pub asks_with_data : Coded Command → Bool
asks_with_data command = known_among command_number (EnrollTemplate ∷ Unlock ∷ ChangePassword ∷ []) command

-- the responses that carry data
abbrev pub answers_with_data : Coded Command → Coded Code → Bool
answers_with_data command code =
    known_among command_number (ListTemplates ∷ ReadTemplate ∷ []) command
    && known_among code_number (Success ∷ []) code

-- what is written behind a packet: its data and 0x0A, where it carries any
abbrev pub data_bytes : Bool → List ℕ → List ℕ
data_bytes false bs = []
data_bytes true bs = bs ++ 0x0A ∷ []

-- the data behind a packet, `size` bytes and 0x0A where it carries any, and what stands behind that
abbrev pub split_data : Bool → ℕ → List ℕ → Result (List ℕ × List ℕ) Refusal
split_data false size bs = Ok ([], bs)
split_data true size bs =
    cond (nat_lt size (length bs) && slice_index bs size == 0x0A) (Ok (take size bs, drop (size + 1) bs))
    (Err DataLength)

-- the same of slices
abbrev pub seen_data : Result (Bor (List ℕ) × Bor (List ℕ)) Refusal → Result (List ℕ × List ℕ) Refusal
seen_data (Ok x) = Ok (x.0.now, x.1.now)
seen_data (Err e) = Err e

abbrev pub seen_bytes : Result (Bor (List ℕ)) Refusal → Result (List ℕ) Refusal
seen_bytes (Ok x) = Ok x.now
seen_bytes (Err e) = Err e
