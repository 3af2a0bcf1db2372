-- A call, from what was heard and written to what it shows.
use Rattle.std.proofs.Common.{◌≡◌, ℕ, ◌<◌, ◌≤◌, true, List, map, length, replicate, is_ok, Ok, Err, Result, sym, refl}
use Rattle.std.proofs.Common.{ap, ◌∙◌, subst, arith}
use Rattle.codes.specs.declared.refusal.Refusal.{Refusal}
use Rattle.codes.specs.declared.refusal.Refusal.TheVariants.{AnswerBuffer, WorkBuffer}
use Rattle.device.specs.View.{said_in, went}
use Rattle.device.specs.declared.answers.Answers.{Answers}
use Rattle.engine.specs.Seen.{count_in, entry, listed, seen}
use Rattle.engine.specs.Shows.{Heard, Served, Shows}
use Rattle.engine.specs.Wrote.{Wrote}
use Rattle.engine.specs.declared.answer.Answer.{Answer}
use Rattle.engine.specs.declared.answer.Outcomes.{Outcomes}
use Rattle.machine.specs.Answers.{Step}
use Rattle.machine.specs.Machine.{Call, next_of, on_event, step_of, work_after}
use Rattle.machine.specs.State.{State}
use Rattle.memory.specs.Held.{Sound}
use Rattle.promises.proofs.Calls.{keeps}
use Rattle.promises.proofs.Refused.{answers-clear, refusals-leave}
use Rattle.promises.proofs.Sent.{said-proper}
use Rattle.promises.proofs.Ways.{never}
use Rattle.promises.specs.Calls.{Keeps}
use Rattle.promises.specs.Runs.{answered as answered_in}
use Rattle.std.specs.List.{AllByRecursion}
use Rattle.std.proofs.lemmas.Bool.{le-ltb, lt-ltb}

-- buffers that are long enough
pub within : (v : State) (c : Call) → 2048 ≤ length c.out → 384 ≤ length c.work → step_of v c ≡ on_event v c.event
within v c long wide =
    let p = le-ltb (length c.out) 2048 long in
    let q = le-ltb (length c.work) 384 wide in
    rw (p, q)

-- a refusal, of whatever kind
pub refusing : (v : State) (c : Call) (e : Refusal) → step_of v c ≡ Err e → Shows v c.event (step_of v c) (Err e) v c.out c.out
refusing v c e p =
    let P : Result Step Refusal → Type 0 = λ r. Shows v c.event r (Err e) v c.out c.out in
    subst P (sym p) (record { answer = refl; count = refl; next = refl; bytes = refl; reads = refl; back = λ z. never z })

module _ (v : State) (c : Call) (w : State) (s : step_of v c ≡ on_event v c.event) where
  pub refused : (e : Refusal) → Heard v c.event (Err e) w → Shows v c.event (step_of v c) (Err e) w c.out c.out
  refused e k =
      let p : step_of v c ≡ Err e = s ∙ sym k.step in
      let same : v ≡ w = sym (k.next ∙ ap (next_of v) (sym k.step)) in
      let P : State → Type 0 = λ u. Shows v c.event (step_of v c) (Err e) u c.out c.out in
      subst P same (refusing v c e p)

  pub answered : (a : Answers) (os : Outcomes) (n : ℕ) (after : List ℕ) → Heard v c.event (Ok a) w
      → Wrote v.own (said_in w.held a) c.out after n → listed os ≡ map (λ y. y.outcome) (said_in w.held a)
      → AllByRecursion (Sound v.size) v.held
      → Shows v c.event (step_of v c) (Ok (record { outcomes = os; count = n })) w c.out after
  answered a os n after k wrote seen sound =
      let p : step_of v c ≡ Ok (went w a) = s ∙ sym k.step in
      let P : Result Step Refusal → Type 0 = λ r. Shows v c.event r (Ok (record { outcomes = os; count = n })) w c.out after in
      subst P (sym p)
      (record {
        answer = ap Ok seen;
        count = wrote.count;
        next = refl;
        bytes = wrote.bytes;
        reads = wrote.reads (said-proper v sound c (went w a) p);
        back = λ _. k.back refl;
      })

-- an answer is a step, a refusal the machine's
step-refused : (r : Result Step Refusal) (e : Refusal) → answered_in r ≡ Err e → r ≡ Err e
step-refused (Ok x) e p = absurd (let z : ◌≡◌ {A = ℕ} 0 1 = cc in omega arith)
step-refused (Err f) e p = cc

record Stepped (r : Result Step Refusal) : Type 0 where
  step : Step
  is : r ≡ Ok step

step-taken : (r : Result Step Refusal) (a : Result Answer Refusal) → seen a ≡ answered_in r → is_ok a ≡ true → Stepped r
step-taken (Ok x) a p q = record { step = x; is = refl }
step-taken (Err e) (Ok a) p q = absurd (let z : ◌≡◌ {A = ℕ} 0 1 = cc in omega arith)
step-taken (Err e) (Err f) p q = never q

pub serves : (v : State) (c : Call) (a : Result Answer Refusal) (w : State) (out work : List ℕ)
    → Shows v c.event (step_of v c) a w c.out out
    → work ≡ work_after c → Served v c a w out work
serves v c a w out work shows after = record {
  shows = shows;
  work_after = after;
  refused = λ e is. (
      let p = step-refused (step_of v c) e (sym shows.answer ∙ ap seen is) in
      let l = refusals-leave v c e p in
      (shows.next ∙ l.state, shows.bytes ∙ l.out, after ∙ l.work));
  answered_clear = λ ok. (let x = step-taken (step_of v c) a shows.answer ok in after ∙ answers-clear v c x.step x.is);
}

-- a buffer that is too short
module _ (v : State) (c : Call) where
  pub short-answer : length c.out < 2048 → Served v c (Err AnswerBuffer) v c.out c.work
  short-answer lt =
      let t = lt-ltb (length c.out) 2048 lt in
      serves v c (Err AnswerBuffer) v c.out c.work (refusing v c AnswerBuffer (rw t)) (rw t)

  pub short-work : 2048 ≤ length c.out → length c.work < 384 → Served v c (Err WorkBuffer) v c.out c.work
  short-work long lt =
      let t = le-ltb (length c.out) 2048 long in
      let u = lt-ltb (length c.work) 384 lt in
      serves v c (Err WorkBuffer) v c.out c.work (refusing v c WorkBuffer (rw (t, u))) (rw (t, u))

  pub long-enough : 2048 ≤ length c.out → 384 ≤ length c.work → work_after c ≡ replicate (length c.work) 0
  long-enough long wide =
      let t = le-ltb (length c.out) 2048 long in
      let u = le-ltb (length c.work) 384 wide in
      rw (t, u)

-- the promises, of what was served
pub promised : (v : State) (c : Call) (a : Result Answer Refusal) (w : State) (out work : List ℕ)
    → Served v c a w out work → Keeps v (entry c a) w
promised v c a w out work k = keeps v c (seen a) (count_in a) w k.shows.answer k.shows.count k.shows.next
