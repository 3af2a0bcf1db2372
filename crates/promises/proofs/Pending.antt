-- The request that waits is the waiting packet of the record.
use Rattle.std.proofs.Common.{◌≡◌, ℕ, ◌<◌, Bool, List, Some, None, Option}
use Rattle.codes.specs.Flags.{flag_number, flags}
use Rattle.codes.specs.Numbers.{case_of}
use Rattle.codes.specs.declared.numbered.Coded.TheVariants.{Known}
use Rattle.packet.specs.Requests.{RequestParts}
use Rattle.machine.specs.State.{Phase, Waiting, command_of}
use Rattle.machine.specs.State.Phase.{
  grant_to_enroll,
  grant_to_delete,
  first_finger,
  second_finger,
  person_to_verify,
  person_to_identify,
  person_to_delete,
}
use Rattle.machine.specs.declared.enrollment.Enroller.TheVariants.{Administrator}
use Rattle.promises.specs.Grants.{holds_grant, one_if}
use Rattle.promises.specs.Record.{Owner, Told}
use Rattle.promises.specs.Record.Owner.{nobody, owner}
use Rattle.promises.proofs.Counts.{grants_of, open_of, uses_of}

-- the packet at `p` has no SUCCESS, and one CONTINUE, still open, or none
pub record Stands (p : ℕ) (b : Bool) (ts : List Told) : Type 0 where
  pub granted : grants_of p ts ≡ one_if b
  pub unused : uses_of p ts ≡ 0
  pub opened : open_of p ts ≡ b

-- what the request's own fields say of the phase
abbrev pub Detail : RequestParts → Phase → Type 0
Detail q (grant_to_enroll e) = (e.by ≡ Administrator) × (case_of flag_number flags q.flag ≡ Some e.flag)
Detail q (grant_to_delete range) = Unit {0}
Detail q (first_finger e) = case_of flag_number flags q.flag ≡ Some e.flag
Detail q (second_finger e one quality) = case_of flag_number flags q.flag ≡ Some e.flag
Detail q (person_to_verify id) = Unit {0}
Detail q (person_to_identify range) = Unit {0}
Detail q (person_to_delete range) = Unit {0}

-- the packet that waits for the phase, of n calls
pub record Awaits (n p : ℕ) (q : RequestParts) (phase : Phase) (ts : List Told) : Type 0 where
  pub place : p < n
  pub command : q.command ≡ Known (command_of phase)
  pub detail : Detail q phase
  pub stands : Stands p (holds_grant phase) ts

abbrev pub PendingAt : ℕ → Phase → Owner → List Told → Type 0
PendingAt n phase nobody ts = ⊥
PendingAt n phase (owner p q) ts = Awaits n p q phase ts

abbrev pub Pending : ℕ → Option Waiting → Owner → List Told → Type 0
Pending n None w ts = Unit {0}
Pending n (Some x) w ts = PendingAt n x.phase w ts
