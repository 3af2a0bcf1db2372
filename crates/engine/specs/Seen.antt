-- What a call was given, and what it answers.
use Rattle.std.specs.Prelude.{ℕ, List, [], ◌∷◌, Ok, Err, Result}
use Rattle.codes.specs.declared.refusal.Refusal.{Refusal}
use Rattle.device.specs.View.{view}
use Rattle.machine.specs.Machine.{Call, Event}
use Rattle.machine.specs.Machine.Event.{packet, finger, second}
use Rattle.machine.specs.State.{State}
use Rattle.matcher.specs.declared.matching.Matcher.{Ghosts as Matching}
use Rattle.memory.specs.declared.Memory.{Ghosts as Remembering}
use Rattle.packet.specs.declared.response.Outcome.{Outcome}
use Rattle.promises.specs.Record.{Entry}
use Rattle.engine.specs.declared.answer.Answer.{Answer}
use Rattle.engine.specs.declared.answer.Outcomes.{Outcomes}
use Rattle.engine.specs.declared.answer.Outcomes.TheVariants.{Nothing, One, Two}
use Rattle.std.specs.Borrow.{Bor}
use Rattle.phases.specs.declared.scan.Event.{Event as Given}
use Rattle.phases.specs.declared.scan.Event.TheVariants.{Packet, Finger, Second}
use Rattle.phases.specs.declared.scan.Scan.{Scan}
use Rattle.engine.specs.declared.inner.Module.{Module}

-- a module, as the machine's state
abbrev pub state : {M S : Type 0} → (f : Matching M) (g : Remembering S) → Module M S f g → State
state f g m = view f g m.device

-- a call of this event on these two buffers
abbrev pub call : Event → List ℕ → List ℕ → Call
call e out work = record { event = e; out = out; work = work }

-- what a call is given, as the machine's event
abbrev pub event_of : Given (Bor (List ℕ)) Scan → Event
event_of (Packet frame) = packet frame.now
event_of (Finger scan) = finger scan.bytes.now scan.quality
event_of Second = second

abbrev pub listed : Outcomes → List Outcome
listed Nothing = []
listed (One o) = o ∷ []
listed (Two o p) = o ∷ p ∷ []

-- its outcomes, or its refusal
abbrev pub seen : Result Answer Refusal → Result (List Outcome) Refusal
seen (Ok a) = Ok (listed a.outcomes)
seen (Err e) = Err e

-- the count of bytes written
abbrev pub count_in : Result Answer Refusal → ℕ
count_in (Ok a) = a.count
count_in (Err e) = 0

-- the call with its answer, as it stands in the record of a run
abbrev pub entry : Call → Result Answer Refusal → Entry
entry c a = record { call = c; answer = seen a; count = count_in a }
