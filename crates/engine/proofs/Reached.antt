-- A module that calls have led to is ready for what waits in it, and a call leads it on.
use Rattle.std.proofs.Common.{◌≡◌, ℕ, Bool, List, [], Some, None, Option}
use Rattle.std.proofs.Math.Logic.{∥∥₁_elim, ∥∥₁_map}
use Rattle.std.proofs.Props.{props}
use Rattle.machine.specs.Machine.{Call, next_of, step_of}
use Rattle.machine.specs.Ready.{Ready, ReadyAt, ReadyIn}
use Rattle.machine.specs.State.{Phase, State, Waiting, fresh}
use Rattle.machine.specs.State.Phase.{
  grant_to_enroll,
  grant_to_delete,
  first_finger,
  second_finger,
  person_to_verify,
  person_to_identify,
  person_to_delete,
}
use Rattle.promises.proofs.Calls.{reached-next}
use Rattle.promises.proofs.Whole.{reached-ready}
use Rattle.promises.specs.Runs.{Reached}

ready_at-prop : (s : State) (p : Phase) → IsProp (ReadyAt s p)
ready_at-prop s (grant_to_enroll e) = hlevel props
ready_at-prop s (grant_to_delete range) = hlevel props
ready_at-prop s (first_finger e) = hlevel props
ready_at-prop s (second_finger e one quality) = hlevel props
ready_at-prop s (person_to_verify id) = hlevel props
ready_at-prop s (person_to_identify range) = hlevel props
ready_at-prop s (person_to_delete range) = hlevel props

ready_in-prop : (s : State) (w : Option Waiting) → IsProp (ReadyIn s w)
ready_in-prop s None = hlevel props
ready_in-prop s (Some w) = ready_at-prop s w.phase

pub ready : (s : State) → ∥ Reached s ∥₁ → Ready s
ready s r = ∥∥₁_elim r (ready_in-prop s s.waiting) (reached-ready s)

pub leads : (v : State) (c : Call) (w : State) → w ≡ next_of v (step_of v c) → ∥ Reached v ∥₁ → ∥ Reached w ∥₁
leads v c w led r = ∥∥₁_map r (reached-next v c w led)

pub begins : (agree : List ℕ → List ℕ → ℕ → Bool) (size room own : ℕ) (v : State) → v ≡ fresh agree size room own → ∥ Reached v ∥₁
begins agree size room own v led = ∣ record { agree = agree; size = size; room = room; own = own; calls = []; led = led } ∣₁
