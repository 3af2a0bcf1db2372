-- The promises, by induction over the calls of a run.
use Rattle.std.proofs.Common.{◌≡◌, ℕ, ◌+◌, Bool, List, [], ◌∷◌, length, sym, refl, ap, ◌∙◌, subst}
use Rattle.machine.specs.Machine.{Call, after}
use Rattle.machine.specs.Ready.{Ready}
use Rattle.machine.specs.State.{State, fresh}
use Rattle.promises.specs.Grants.{failed_ends, grant_held, grants, in_time, one_if, uses}
use Rattle.promises.specs.Promises.{AlwaysPromised}
use Rattle.promises.specs.Record.{Told, record_of, told, waiter}
use Rattle.promises.specs.Runs.{Reached}
use Rattle.promises.proofs.Earned.{earned-in, own-stays, room-stays}
use Rattle.promises.proofs.Ends.{same_ends}
use Rattle.promises.proofs.Ledger.{Ledger}
use Rattle.promises.proofs.LedgerSteps.{ledger-step}
use Rattle.promises.proofs.Places.{one_grant as places-granted, spent_once as places-spent}
use Rattle.promises.proofs.Sound.{sound}
use Rattle.promises.proofs.Tallies.{Kept, kept-capacity, kept-start, kept_step, kept-ten, ready_in}

module _ (agree : List ℕ → List ℕ → ℕ → Bool) (size room own : ℕ) where
  abbrev made : State
  made = fresh agree size room own

  abbrev outcomes : List Call → List Told
  outcomes h = told own (record_of made h)

  ledger : (h : List Call) → Ledger (length (record_of made h)) (waiter own (record_of made h)) (outcomes h) (after made h).waiting
  ledger [] = record {
    fresh = λ p _. record { granted = refl; unused = refl; opened = refl };
    pending = tt;
    balance = refl;
    owned = tt;
    one = tt;
    first = tt;
  }
  ledger (c ∷ h) =
      ledger-step own (length (record_of made h)) (waiter own (record_of made h)) (outcomes h) (after made h) (sym (own-stays made h))
      (sound agree size room own h) (ledger h) c

  balanced : (h : List Call)
      → grants (outcomes h) ≡ uses (outcomes h) + failed_ends (in_time (outcomes h))
      + one_if (grant_held (after made h).waiting)
  balanced h = (ledger h).balance ∙ ap (λ n. uses (outcomes h) + n + one_if (grant_held (after made h).waiting)) (same_ends (outcomes h))

  kept : (h : List Call) → Kept (outcomes h) (after made h)
  kept [] = kept-start agree size room own
  kept (c ∷ h) =
      kept_step own (length (record_of made h)) (waiter own (record_of made h)) (outcomes h) (after made h) (sym (own-stays made h))
      (ledger h).pending (kept h) c

pub always-promised : AlwaysPromised
always-promised agree size room own h =
    let l = ledger agree size room own h in
    let k = kept agree size room own h in
    record {
      owned = l.owned;
      balanced = balanced agree size room own h;
      one_grant = places-granted _ l.one;
      spent_once = places-spent _ l.first;
      earned = earned-in _ h;
      allowed_then = k.allowed_then;
      listed = k.listed;
      at_most_ten = kept-ten _ _ k;
      capacity = kept-capacity _ _ k ∙ room-stays (fresh agree size room own) h;
    }

-- an enrolment that waits in a module that calls have led to can be carried out
pub reached-ready : (s : State) → Reached s → Ready s
reached-ready s r =
    let P : State → Type 0 = λ t. Ready t in
    subst P (sym r.led)
    (ready_in (after (made r.agree r.size r.room r.own) r.calls) (after (made r.agree r.size r.room r.own) r.calls).waiting
    (kept r.agree r.size r.room r.own r.calls).ready)
