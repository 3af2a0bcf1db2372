-- What comes to a module: a request, a scan, or a second.
use Rattle.std.specs.Prelude.{cond, ◌||◌, [], is_some, Some, None, Ok, Err, Option, Result}
use Rattle.codes.specs.declared.code.Code.{Code}
use Rattle.codes.specs.declared.refusal.Refusal.{Refusal}
use Rattle.codes.specs.declared.refusal.Refusal.TheVariants.{DataLength}
use Rattle.machine.specs.Answers.{Step, go}
use Rattle.machine.specs.Machine.{asked}
use Rattle.machine.specs.Ready.{CanEnroll}
use Rattle.machine.specs.State.{Phase, State, Waiting}
use Rattle.machine.specs.State.Phase.{
  grant_to_enroll,
  grant_to_delete,
  first_finger,
  second_finger,
  person_to_verify,
  person_to_identify,
  person_to_delete,
}
use Rattle.machine.specs.Waiting.{broken_off, on_finger, on_second}
use Rattle.memory.specs.declared.Memory.{Ghosts as Remembering}
use Rattle.packet.specs.Requests.{has_data, request_parts}
use Rattle.packet.specs.declared.request.Request.{Request}
use Rattle.phases.specs.declared.good.GoodScan.{GoodScan}
use Rattle.phases.specs.declared.scan.Event.{Event}
use Rattle.phases.specs.declared.scan.Event.TheVariants.{Packet, Finger, Second}
use Rattle.phases.specs.declared.scan.Scan.{Scan}

-- a scan that is no good ends the request that waits, where one does
abbrev pub spoiled : State → Option Waiting → Code → Step
spoiled s None code = go s []
spoiled s (Some w) code = broken_off s w code

-- what comes to a module whose lock lets it through, and what it makes of it; a request that would start, but lacks the
-- data that its Size says, is refused (one that was read from a frame has it)
abbrev pub decided : State → Event Request Scan → Result Step Refusal
decided s (Packet q) =
    cond (is_some s.waiting || has_data (request_parts q)) (Ok (asked s s.waiting (request_parts q))) (Err DataLength)
decided s (Finger x) = Ok (on_finger s s.waiting x.bytes.now x.quality)
decided s Second = Ok (on_second s s.waiting)

-- an event whose scan is known to be good, as it came
abbrev pub as_came : {S : Type 0} {g : Remembering S} → Event Request (GoodScan S g) → Event Request Scan
as_came (Packet q) = Packet q
as_came (Finger x) = Finger (record { bytes = x.bytes; quality = x.quality })
as_came Second = Second

-- what a finger needs, by what is awaited: an enrolment that it goes to can be carried out
abbrev pub FitsAt : State → Phase → Type 0
FitsAt s (grant_to_enroll e) = Unit {0}
FitsAt s (grant_to_delete range) = Unit {0}
FitsAt s (first_finger e) = CanEnroll s e
FitsAt s (second_finger e one quality) = CanEnroll s e
FitsAt s (person_to_verify id) = Unit {0}
FitsAt s (person_to_identify range) = Unit {0}
FitsAt s (person_to_delete range) = Unit {0}

abbrev pub FitsIn : State → Option Waiting → Type 0
FitsIn s None = Unit {0}
FitsIn s (Some w) = FitsAt s w.phase

-- packets and seconds need nothing
abbrev pub Fits : State → Event Request Scan → Type 0
Fits s (Packet q) = Unit {0}
Fits s (Finger x) = FitsIn s s.waiting
Fits s Second = Unit {0}
