-- The last 40 of 490 IDs, their block, and how many templates an ID may still get.
use Rattle.std.proofs.Common.{◌≡◌, ℕ, ◌+◌, ◌-◌, ◌<◌, ◌≤◌, List, [], ◌∷◌, length, take, drop, map, Some, None}
use Rattle.std.proofs.Common.{ap, ◌∙◌, arith}
use Rattle.codes.specs.declared.code.Code.TheVariants.{Success, InvalidId, FingerLimit}
use Rattle.codes.specs.declared.command.Command.TheVariants.{ListTemplates}
use Rattle.codes.specs.declared.flag.EnrollFlag.TheVariants.{AddNew}
use Rattle.codes.specs.declared.numbered.Coded.TheVariants.{Known}
use Rattle.memory.specs.Held.{Held}
use Rattle.search.specs.Ids.{count_of}
use Rattle.std.proofs.lemmas.Bool.{le-leb, lt-leb, le-ltb, lt-ltb}
use Rattle.std.proofs.lemmas.List.{length-drop, length-map, take_all}
use Rattle.machine.specs.Enrollment.{enroll_fault}
use Rattle.machine.specs.Requests.{list}
use Rattle.machine.specs.State.{State}
use Rattle.marked.specs.Marked.{asks_block, outcomes_of}

module _ (h : List Held) (e : length h ≡ 490) where
  abbrev rest : List ℕ
  rest = drop 450 (map (λ x. x.id) h)

  pub last-length : length rest ≡ 40
  last-length = length-drop 450 (map (λ x. x.id) h) ∙ ap (λ n. n - 450) (length-map h (λ x. x.id) ∙ e)

  pub last-ids : take 50 rest ≡ rest
  last-ids = let l = last-length in take_all 50 rest (omega arith)

pub block_nine : (s : State) → length s.held ≡ 490
    → outcomes_of (list s (asks_block 9))
    ≡ (record { command = Known ListTemplates; param = 40; size = 160; code = Success }) ∷ []
block_nine s e =
    rw (lt-leb (length s.held) 450 (omega arith), last-ids s.held e, last-length s.held e)

pub block_ten : (s : State) → length s.held ≡ 490
    → outcomes_of (list s (asks_block 10))
    ≡ (record { command = Known ListTemplates; param = 0; size = 0; code = InvalidId }) ∷ []
block_ten s e = rw (le-leb (length s.held) 500 (omega arith))

module _ (s : State) (id needed : ℕ) where
  pub passes : count_of id s.held + needed ≤ 10 → needed ≤ s.room - length s.held
      → enroll_fault s AddNew id needed ≡ None
  passes few room = rw (le-ltb 10 (count_of id s.held + needed) few, le-ltb (s.room - length s.held) needed room)

  pub limited : 10 < count_of id s.held + needed → enroll_fault s AddNew id needed ≡ Some FingerLimit
  limited many = rw (lt-ltb 10 (count_of id s.held + needed) many)
