-- What a module is, at a moment.
use Rattle.std.specs.Prelude.{ℕ, Bool, false, List, [], replicate, None, Option}
use Rattle.codes.specs.declared.command.Command.{Command}
use Rattle.codes.specs.declared.command.Command.TheVariants.{
  Enroll,
  EnrollByAdministrator,
  Verify,
  Identify,
  DeleteByAdministrator,
}
use Rattle.memory.specs.Held.{Held}
use Rattle.packet.specs.declared.form.Form.{Form}
use Rattle.machine.specs.Settings.{fresh_settings}
use Rattle.machine.specs.declared.level.AdminRow.{AdminRow}
use Rattle.machine.specs.declared.settings.Settings.{Settings}
use Rattle.machine.specs.declared.enrollment.Enroller.{Enroller}
use Rattle.machine.specs.declared.enrollment.Enroller.TheVariants.{Host, Administrator}
use Rattle.machine.specs.declared.enrollment.Enrollment.{Enrollment}
use Rattle.search.specs.declared.allowed.IdRange.{IdRange}

-- what a request waits for
pub data Phase : Type 0 where
  grant_to_enroll : Enrollment → Phase  -- ESA: an administrator
  grant_to_delete : IdRange → Phase  -- DSA: an administrator
  first_finger : Enrollment → Phase  -- ES, ESA
  second_finger : Enrollment → List ℕ → ℕ → Phase  -- ES, ESA: with the first scan and its quality
  person_to_verify : ℕ → Phase  -- VS
  person_to_identify : IdRange → Phase  -- IS
  person_to_delete : IdRange → Phase  -- DSA

-- a request that waits: its packet's form, what it waits for, and the seconds left (0: without end)
pub record Waiting : Type 0 where
  pub form : Form
  pub phase : Phase
  pub left : ℕ

-- a module: the meaning of its matcher and memory, and what it keeps itself
pub record State : Type 0 where
  pub agree : List ℕ → List ℕ → ℕ → Bool  -- stored template, scan, strictness
  pub size : ℕ  -- the bytes of a template
  pub room : ℕ  -- the capacity
  pub held : List Held
  pub own : ℕ  -- the module number
  pub locked : Bool
  pub password : List ℕ
  pub settings : Settings
  pub admins : List AdminRow
  pub waiting : Option Waiting

-- a module as it is made
abbrev pub fresh : (List ℕ → List ℕ → ℕ → Bool) → ℕ → ℕ → ℕ → State
fresh agree size room own = record {
  agree = agree;
  size = size;
  room = room;
  held = [];
  own = own;
  locked = false;
  password = replicate 16 0;
  settings = fresh_settings;
  admins = [];
  waiting = None;
}

-- the same module with other contents
abbrev pub remade : State → List Held → Bool → List ℕ → Settings → List AdminRow → Option Waiting → State
remade s held locked password settings admins waiting = record {
  agree = s.agree;
  size = s.size;
  room = s.room;
  held = held;
  own = s.own;
  locked = locked;
  password = password;
  settings = settings;
  admins = admins;
  waiting = waiting;
}

abbrev pub awaiting : State → Option Waiting → State
awaiting s w = remade s s.held s.locked s.password s.settings s.admins w

abbrev pub holding : State → List Held → List AdminRow → State
holding s h rows = remade s h s.locked s.password s.settings rows s.waiting

abbrev pub locking : State → Bool → State
locking s b = remade s s.held b s.password s.settings s.admins s.waiting

abbrev pub guarded : State → List ℕ → State
guarded s password = remade s s.held s.locked password s.settings s.admins s.waiting

abbrev pub configured : State → Settings → State
configured s settings = remade s s.held s.locked s.password settings s.admins s.waiting

-- the command of a request that waits
abbrev pub enroll_command : Enroller → Command
enroll_command Host = Enroll
enroll_command Administrator = EnrollByAdministrator

abbrev pub command_of : Phase → Command
command_of (grant_to_enroll e) = enroll_command e.by
command_of (grant_to_delete range) = DeleteByAdministrator
command_of (first_finger e) = enroll_command e.by
command_of (second_finger e one quality) = enroll_command e.by
command_of (person_to_verify id) = Verify
command_of (person_to_identify range) = Identify
command_of (person_to_delete range) = DeleteByAdministrator
