-- Refusals leave what they must.
use Rattle.std.proofs.Common.{◌≡◌, ℕ, Bool, true, false, cond, ◌||◌, ltb, List, ◌++◌, length, drop, Ok, Err, Result, sym, refl, ap, subst}
use Rattle.codes.specs.declared.network.NetworkMode.{NetworkMode}
use Rattle.codes.specs.declared.refusal.Refusal.{Refusal}
use Rattle.codes.specs.declared.refusal.Refusal.TheVariants.{AnswerBuffer, WorkBuffer}
use Rattle.packet.specs.Requests.{RequestParts, read_request}
use Rattle.machine.specs.Answers.{Step}
use Rattle.machine.specs.Machine.{Event, heard, next_of, on_event, written_by}
use Rattle.machine.specs.Machine.Event.{packet, finger, second}
use Rattle.machine.specs.State.{State}
use Rattle.promises.specs.Refused.{AnswersClear, RefusalsLeave, cleared, work_left}
use Rattle.promises.proofs.Reading.{by-frame, refused}

abbrev Clears : {X : Type 0} → Result X Refusal → Type 0
Clears (Ok x) = Unit {0}
Clears (Err e) = (work : List ℕ) → work_left e work ≡ cleared work

frame-clears : (mode : NetworkMode) (own : ℕ) (xs : List ℕ) → Clears (read_request mode own xs)
frame-clears mode own xs =
    by-frame Clears (λ _. refl) (λ _. refl) (λ _. refl) (λ _. refl) (λ _. refl) (λ _. refl)
    (λ form n param size flag bs whole. tt) mode own xs

heard-clears : (s : State) (r : Result RequestParts Refusal) → Clears r → Clears (heard s r)
heard-clears s (Ok q) c = tt
heard-clears s (Err e) c = c

event-clears : (s : State) (e : Event) → Clears (on_event s e)
event-clears s (packet frame) =
    heard-clears s (read_request s.settings.network s.own frame) (frame-clears s.settings.network s.own frame)
event-clears s (finger scan quality) = tt
event-clears s second = tt

same : (a b : Refusal) → ◌≡◌ {A = Result Step Refusal} (Err a) (Err b) → a ≡ b
same a b e = cc

work-left : (a b : Bool) (r : Result Step Refusal) (e : Refusal) (work : List ℕ) → Clears r
    → cond a (Err AnswerBuffer) (cond b (Err WorkBuffer) r) ≡ Err e → cond (a || b) work (cleared work) ≡ work_left e work
work-left true b r e work k h = ap (λ x. work_left x work) (same AnswerBuffer e h)
work-left false true r e work k h = ap (λ x. work_left x work) (same WorkBuffer e h)
work-left false false r e work k h = let f : Clears {X = Step} (Err e) = subst Clears h k in sym (f work)

pub refusals-leave : RefusalsLeave
refusals-leave s c e h = record {
  state = ap (next_of s) h;
  count = ap (λ r. length (written_by s r)) h;
  out = ap (λ r. written_by s r ++ drop (length (written_by s r)) c.out) h;
  work = work-left (ltb (length c.out) 2048) (ltb (length c.work) 384) (on_event s c.event) e c.work (event-clears s c.event) h;
}

work-clear : (a b : Bool) (r : Result Step Refusal) (x : Step) (work : List ℕ)
    → cond a (Err AnswerBuffer) (cond b (Err WorkBuffer) r) ≡ Ok x → cond (a || b) work (cleared work) ≡ cleared work
work-clear true b r x work h = refused AnswerBuffer x h
work-clear false true r x work h = refused WorkBuffer x h
work-clear false false r x work h = refl

pub answers-clear : AnswersClear
answers-clear s c x h = work-clear (ltb (length c.out) 2048) (ltb (length c.work) 384) (on_event s c.event) x c.work h
