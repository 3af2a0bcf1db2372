-- What a call shows of itself, and what it leaves.
use Rattle.std.specs.Prelude.{◌≡◌, ℕ, true, List, [], ◌++◌, length, take, drop, is_ok, Ok, Err, Result}
use Rattle.codes.specs.declared.refusal.Refusal.{Refusal}
use Rattle.device.specs.View.{tried}
use Rattle.device.specs.declared.answers.Answers.{Answers}
use Rattle.machine.specs.Answers.{Step}
use Rattle.machine.specs.Machine.{Call, Event, next_of, on_event, step_of, work_after, written_by}
use Rattle.machine.specs.Machine.Event.{packet, finger, second}
use Rattle.machine.specs.State.{State}
use Rattle.packet.specs.Requests.{RequestParts, read_request, request_bytes}
use Rattle.packet.specs.Responses.{ResponseParts}
use Rattle.packet.specs.Trips.{ReadAs}
use Rattle.promises.specs.Refused.{cleared, work_left}
use Rattle.promises.specs.Runs.{answered}
use Rattle.promises.specs.Sent.{sent_of}
use Rattle.engine.specs.declared.answer.Answer.{Answer}
use Rattle.engine.specs.Seen.{count_in, seen}

-- what is sent of a call's outcomes: those that do not belong to a broadcast
abbrev pub sent_by : ℕ → Result Step Refusal → List ResponseParts
sent_by own (Ok x) = sent_of own x.said
sent_by own (Err e) = []

-- a packet that is accepted writes back to its frame
abbrev pub WritesBack : State → Event → Type 0
WritesBack v (packet frame) =
    (q : RequestParts) → read_request v.settings.network v.own frame ≡ Ok q → request_bytes q ≡ frame
WritesBack v (finger scan quality) = Unit {0}
WritesBack v second = Unit {0}

-- a module that was `v` when an event came, and answers `a`, is `w` now
pub record Heard (v : State) (e : Event) (a : Result Answers Refusal) (w : State) : Type 0 where
  pub step : tried w a ≡ on_event v e
  pub next : w ≡ next_of v (on_event v e)
  pub back : is_ok a ≡ true → WritesBack v e

-- a module that was `v` when an event came is `w` now; the machine's step was `r`, the call's answer is `a`
pub record Shows (v : State) (e : Event) (r : Result Step Refusal) (a : Result Answer Refusal) (w : State)
    (before after : List ℕ) : Type 0 where
  -- the refusal or the outcomes, the count, the next state and the answer buffer are the machine's
  pub answer : seen a ≡ answered r
  pub count : count_in a ≡ length (written_by v r)
  pub next : w ≡ next_of v r
  pub bytes : after ≡ written_by v r ++ drop (length (written_by v r)) before
  -- the bytes written read back, in order, as exactly the outcomes that do not belong to a broadcast
  pub reads : ReadAs (take (count_in a) after) (sent_by v.own r)
  pub back : is_ok a ≡ true → WritesBack v e

-- a call: what it shows is the machine's; a refused one leaves the module and the answer buffer as they were, and the
-- work buffer too where a buffer was too short; any other leaves zeros in the work buffer
pub record Served (v : State) (c : Call) (a : Result Answer Refusal) (w : State) (out work : List ℕ) : Type 0 where
  pub shows : Shows v c.event (step_of v c) a w c.out out
  pub work_after : work ≡ work_after c
  pub refused : (e : Refusal) → a ≡ Err e → (w ≡ v) × (out ≡ c.out) × (work ≡ work_left e c.work)
  pub answered_clear : is_ok a ≡ true → work ≡ cleared c.work
