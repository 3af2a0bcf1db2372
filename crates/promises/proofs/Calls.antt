-- A run begins with the making, and goes on with each call.
use Rattle.std.proofs.Common.{◌≡◌, ℕ, Bool, List, [], ◌∷◌, length, Result, sym, refl, ap, ◌∙◌, subst, ap₂}
use Rattle.codes.specs.declared.refusal.Refusal.{Refusal}
use Rattle.packet.specs.declared.response.Outcome.{Outcome}
use Rattle.machine.specs.Machine.{Call, next_of, step_of, written_by}
use Rattle.machine.specs.State.{State, fresh}
use Rattle.promises.specs.Calls.{Keeps, Run, making}
use Rattle.promises.specs.Promises.{Promised}
use Rattle.promises.specs.Record.{Entry, entry_of, record_of, told}
use Rattle.promises.specs.Runs.{Reached, answered}
use Rattle.promises.proofs.Alike.{locked-alike, locked-idle}
use Rattle.promises.proofs.Whole.{always-promised}

pub begins : (agree : List ℕ → List ℕ → ℕ → Bool) (size room own : ℕ) → Run [] (fresh agree size room own)
begins agree size room own = record { agree = agree; size = size; room = room; own = own; calls = []; noted = refl; led = refl }

abbrev goes : (v : State) (c : Call) (e : Entry) (w : State) → e ≡ entry_of v c → w ≡ next_of v (step_of v c)
    → (x : List Entry) → Run x v → Run (e ∷ x) w
goes v c e w noted led x r = record {
  agree = r.agree;
  size = r.size;
  room = r.room;
  own = r.own;
  calls = c ∷ r.calls;
  noted = ap₂ (λ a l. a ∷ l) (noted ∙ ap (λ s. entry_of s c) r.led) r.noted;
  led = led ∙ ap (λ s. next_of s (step_of s c)) r.led;
}

reached : (x : List Entry) (v : State) → Run x v → Reached v
reached x v r = record { agree = r.agree; size = r.size; room = r.room; own = r.own; calls = r.calls; led = r.led }

promised-run : (x : List Entry) (v : State) (r : Run x v) → Promised (making r) x (told r.own x) v
promised-run x v r =
    let y = record_of (making r) r.calls in
    subst (λ z. Promised (making r) z (told r.own z) v) (sym r.noted)
    (subst (λ u. Promised (making r) y (told r.own y) u) (sym r.led) (always-promised r.agree r.size r.room r.own r.calls))

pub keeps : (v : State) (c : Call) (a : Result (List Outcome) Refusal) (n : ℕ) (w : State) → a ≡ answered (step_of v c)
    → n ≡ length (written_by v (step_of v c)) → w ≡ next_of v (step_of v c) → Keeps v (record { call = c; answer = a; count = n }) w
keeps v c a n w answer count led =
    let e : Entry = record { call = c; answer = a; count = n } in
    let noted : e ≡ entry_of v c = ap₂ (λ b m. record { call = c; answer = b; count = m }) answer count in
    let on = goes v c e w noted led in
    record {
      goes_on = on;
      same_making = λ x r. refl;
      one_longer = λ x r. refl;
      promised = λ x r. promised-run (e ∷ x) w (on x r);
      idle = λ x r l. locked-idle w (reached (e ∷ x) w (on x r)) l;
      alike = λ x r y b s t cs. locked-alike w b (reached (e ∷ x) w (on x r)) (reached y b s) t.first_locked
          t.second_locked t.password t.own t.network cs;
    }

-- a call goes on from a module that calls have led to
pub reached-next : (v : State) (c : Call) (w : State) → w ≡ next_of v (step_of v c) → Reached v → Reached w
reached-next v c w led r = record {
  agree = r.agree;
  size = r.size;
  room = r.room;
  own = r.own;
  calls = c ∷ r.calls;
  led = led ∙ ap (λ s. next_of s (step_of s c)) r.led;
}
