-- What a module keeps, as the machine's state; and what a call answers, as the machine says it.
use Rattle.std.specs.Prelude.{ℕ, List, [], ◌∷◌, take, Some, None, Ok, Err, Option, Result}
use Rattle.administrators.specs.Table.{rows_of}
use Rattle.codes.specs.declared.refusal.Refusal.{Refusal}
use Rattle.matcher.specs.declared.matching.Matcher.{Ghosts as Matching}
use Rattle.memory.specs.Held.{Held, block_of, held_at}
use Rattle.memory.specs.declared.Memory.{Ghosts as Remembering}
use Rattle.packet.specs.Numbers.{bytes32}
use Rattle.packet.specs.declared.form.Form.{Form}
use Rattle.std.specs.List.{flat_map}
use Rattle.machine.specs.Answers.{Said, Step, go}
use Rattle.machine.specs.State.{Phase, State, Waiting}
use Rattle.machine.specs.State.Phase.{
  grant_to_enroll,
  grant_to_delete,
  first_finger,
  second_finger,
  person_to_verify,
  person_to_identify,
  person_to_delete,
}
use Rattle.device.specs.declared.answers.Answers.{Answers}
use Rattle.device.specs.declared.answers.Answers.TheVariants.{Nothing, One, WithData, Two}
use Rattle.device.specs.declared.answers.Data.{Data}
use Rattle.device.specs.declared.answers.Data.TheVariants.{Ids, Template}
use Rattle.device.specs.declared.answers.Told.{Told}
use Rattle.device.specs.declared.awaited.Awaited.{Awaited}
use Rattle.device.specs.declared.awaited.Awaited.TheVariants.{
  Nothing as NothingAwaited,
  GrantToEnroll,
  GrantToDelete,
  FirstFinger,
  SecondFinger,
  PersonToVerify,
  PersonToIdentify,
  PersonToDelete,
}
use Rattle.device.specs.declared.awaited.FirstScan.{FirstScan}
use Rattle.device.specs.declared.keeping.Device.{Device}

-- what is awaited; the first scan is as long as a template
abbrev pub phase_of : ℕ → FirstScan → Awaited → Option Phase
phase_of size one NothingAwaited = None
phase_of size one (GrantToEnroll e) = Some (grant_to_enroll e)
phase_of size one (GrantToDelete range) = Some (grant_to_delete range)
phase_of size one (FirstFinger e) = Some (first_finger e)
phase_of size one (SecondFinger e) = Some (second_finger e (take size one.bytes) one.quality)
phase_of size one (PersonToVerify id) = Some (person_to_verify id)
phase_of size one (PersonToIdentify range) = Some (person_to_identify range)
phase_of size one (PersonToDelete range) = Some (person_to_delete range)

-- a request that waits, where there is one
abbrev pub waiting_of : Form → ℕ → Option Phase → Option Waiting
waiting_of form left None = None
waiting_of form left (Some phase) = Some (record { form = form; phase = phase; left = left })

abbrev pub view : {M S : Type 0} → Matching M → Remembering S → Device M S → State
view f g d = record {
  agree = f.yes d.matcher;
  size = g.T;
  room = g.room d.memory;
  held = g.held d.memory;
  own = d.own;
  locked = d.locked;
  password = d.password;
  settings = d.settings;
  admins = rows_of d.admins;
  waiting = waiting_of d.form d.left (phase_of g.T d.first d.awaited);
}

-- the data of an outcome
abbrev pub data_in : List Held → Data → List ℕ
data_in h (Ids from most) = flat_map bytes32 (block_of from most h)
data_in h (Template place) = (held_at h place).template

abbrev pub plain : Told → Said
plain t = record { to = t.to; outcome = t.outcome; «data» = [] }

-- the outcomes that a call answers, over the templates that are held
abbrev pub said_in : List Held → Answers → List Said
said_in h Nothing = []
said_in h (One t) = plain t ∷ []
said_in h (WithData t d) = (record { to = t.to; outcome = t.outcome; «data» = data_in h d }) ∷ []
said_in h (Two t u) = plain t ∷ plain u ∷ []

-- how a call went: what the module is now, and what was answered
abbrev pub went : State → Answers → Step
went s a = go s (said_in s.held a)

-- the same of a call that may be refused
abbrev pub tried : State → Result Answers Refusal → Result Step Refusal
tried s (Ok a) = Ok (went s a)
tried s (Err e) = Err e
