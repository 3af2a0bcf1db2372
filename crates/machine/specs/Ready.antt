-- An enrolment that waits can be carried out: it was tested when the request came, and nothing changes while it waits.
use Rattle.std.specs.Prelude.{◌-◌, ◌<◌, ◌≤◌, length, Some, None, Option}
use Rattle.machine.specs.Settings.{templates_in}
use Rattle.machine.specs.State.{Phase, State, Waiting}
use Rattle.machine.specs.State.Phase.{
  grant_to_enroll,
  grant_to_delete,
  first_finger,
  second_finger,
  person_to_verify,
  person_to_identify,
  person_to_delete,
}
use Rattle.machine.specs.declared.enrollment.Enrollment.{Enrollment}

-- it is for an ID, and there are free places for the templates of its fingers
pub record CanEnroll (s : State) (e : Enrollment) : Type 0 where
  pub some_id : 0 < e.id
  pub places : templates_in s.settings.enroll ≤ s.room - length s.held

abbrev pub ReadyAt : State → Phase → Type 0
ReadyAt s (grant_to_enroll e) = CanEnroll s e
ReadyAt s (grant_to_delete range) = Unit {0}
ReadyAt s (first_finger e) = CanEnroll s e
ReadyAt s (second_finger e one quality) = CanEnroll s e
ReadyAt s (person_to_verify id) = Unit {0}
ReadyAt s (person_to_identify range) = Unit {0}
ReadyAt s (person_to_delete range) = Unit {0}

abbrev pub ReadyIn : State → Option Waiting → Type 0
ReadyIn s None = Unit {0}
ReadyIn s (Some w) = ReadyAt s w.phase

abbrev pub Ready : State → Type 0
Ready s = ReadyIn s s.waiting
