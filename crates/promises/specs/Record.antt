-- The record of a run, the newest call first, and what can be read off it alone.
-- Packets are named by their place: the number of calls before them.
use Rattle.std.specs.Prelude.{ℕ, ◌==◌, Bool, false, cond, ◌||◌, Option, Some, None, Result, Ok, Err}
use Rattle.std.specs.Prelude.{List, [], ◌∷◌, ◌++◌, length, replicate, slice_index}
use Rattle.codes.specs.Codes.{code_number}
use Rattle.codes.specs.Numbers.{case_of}
use Rattle.codes.specs.Parameters.{parameter_number, parameters}
use Rattle.codes.specs.declared.code.Code.{Code}
use Rattle.codes.specs.declared.code.Code.TheVariants.{
  Success,
  ScanSuccess,
  ScanFail,
  NotFound,
  NotMatch,
  TryAgain,
  TimeOut,
  MemFull,
  ExistId,
  FingerLimit,
  Continue,
  Unsupported,
  InvalidId,
  Busy,
  Canceled,
  ExistFinger,
  Locked,
}
use Rattle.codes.specs.declared.command.Command.{Command}
use Rattle.codes.specs.declared.command.Command.TheVariants.{
  WriteParameter,
  ReadParameter,
  Enroll,
  EnrollTemplate,
  Verify,
  Identify,
  ReadTemplate,
  Delete,
  DeleteAll,
  ListTemplates,
  Cancel,
  WriteLevel,
  EnrollByAdministrator,
  DeleteByAdministrator,
  Unlock,
  Lock,
  ChangePassword,
}
use Rattle.codes.specs.declared.network.NetworkMode.{NetworkMode}
use Rattle.codes.specs.declared.network.NetworkMode.TheVariants.{Single, Network}
use Rattle.codes.specs.declared.numbered.Coded.{Coded}
use Rattle.codes.specs.declared.numbered.Coded.TheVariants.{Known, Unknown}
use Rattle.codes.specs.declared.refusal.Refusal.{Refusal}
use Rattle.packet.specs.Requests.{RequestParts, read_request}
use Rattle.packet.specs.declared.response.Outcome.{Outcome}
use Rattle.machine.specs.Machine.{Call, Event, after, step_of, written_by}
use Rattle.machine.specs.Machine.Event.{packet, finger, second}
use Rattle.machine.specs.Requests.{Wanted, level_in}
use Rattle.machine.specs.Requests.Wanted.{no_level, wanted}
use Rattle.machine.specs.Settings.{fresh_settings, set, setting_of, templates_in}
use Rattle.machine.specs.State.{State}
use Rattle.machine.specs.declared.level.Level.{Level}
use Rattle.codes.specs.declared.parameter.Parameter.{Parameter}
use Rattle.machine.specs.declared.settings.Setting.{Setting}
use Rattle.machine.specs.declared.settings.Settings.{Settings}
use Rattle.promises.specs.Runs.{answered}

-- a call with its refusal or its outcomes, and the count of bytes written
pub record Entry : Type 0 where
  pub call : Call
  pub answer : Result (List Outcome) Refusal
  pub count : ℕ

abbrev pub entry_of : State → Call → Entry
entry_of s c = record { call = c; answer = answered (step_of s c); count = length (written_by s (step_of s c)) }

-- the record of the calls `h` of a module that was `s` when it was made
abbrev pub record_of : State → List Call → List Entry
record_of s [] = []
record_of s (c ∷ h) = entry_of (after s h) c ∷ record_of s h

-- a packet of the record, by its place, with what it asks
pub data Owner : Type 0 where
  nobody : Owner
  owner : ℕ → RequestParts → Owner

-- the form of a frame that was accepted shows in its start code
abbrev pub mode_of : List ℕ → NetworkMode
mode_of frame = cond (slice_index frame 0 == 0x41) Network Single

abbrev pub owned_by : ℕ → Result RequestParts Refusal → Owner
owned_by n (Ok q) = owner n q
owned_by n (Err e) = nobody

-- the packet at a place, to the module whose number is `own`
abbrev pub packet_at : ℕ → ℕ → List ℕ → Owner
packet_at own n frame = owned_by n (read_request (mode_of frame) own frame)

-- the packet that waits: the last one that was not refused and that its own call left without an outcome
abbrev pub waits : ℕ → Event → Result (List Outcome) Refusal → ℕ → Owner → Owner
waits own (packet frame) (Ok []) n w = packet_at own n frame
waits own (packet frame) (Ok (o ∷ os)) n w = w
waits own (packet frame) (Err e) n w = w
waits own (finger scan quality) a n w = w
waits own second a n w = w

abbrev pub waiter : ℕ → List Entry → Owner
waiter own [] = nobody
waiter own (x ∷ xs) = waits own x.call.event x.answer (length xs) (waiter own xs)

-- whose an outcome is: CANCELED, and all that comes of finger and second, is the waiting packet's; any other is its own
-- packet's
abbrev pub is_code : Code → Code → Bool
is_code a b = code_number a == code_number b

abbrev pub belongs : ℕ → Event → Code → ℕ → Owner → Owner
belongs own (packet frame) k n w = cond (is_code Canceled k) w (packet_at own n frame)
belongs own (finger scan quality) k n w = w
belongs own second k n w = w

-- an outcome with its request
pub record Told : Type 0 where
  pub of : Owner
  pub out : Outcome

-- all outcomes of the record, the newest first
abbrev pub adds : ℕ → Event → ℕ → Owner → List Outcome → List Told → List Told
adds own e n w [] ts = ts
adds own e n w (o ∷ os) ts = adds own e n w os ((record { of = belongs own e o.code n w; out = o }) ∷ ts)

abbrev pub tells : ℕ → Event → ℕ → Owner → Result (List Outcome) Refusal → List Told → List Told
tells own e n w (Ok os) ts = adds own e n w os ts
tells own e n w (Err r) ts = ts

abbrev pub told : ℕ → List Entry → List Told
told own [] = []
told own (x ∷ xs) = tells own x.call.event (length xs) (waiter own xs) x.answer (told own xs)

-- what a code means: a scan that was good, a grant (CONTINUE), a success, or a failure
pub data Mark : Type 0 where
  scan grant success failure : Mark

abbrev pub mark : Code → Mark
mark Success = success
mark ScanSuccess = scan
mark ScanFail = failure
mark NotFound = failure
mark NotMatch = failure
mark TryAgain = failure
mark TimeOut = failure
mark MemFull = failure
mark ExistId = failure
mark FingerLimit = failure
mark Continue = grant
mark Unsupported = failure
mark InvalidId = failure
mark Busy = failure
mark Canceled = failure
mark ExistFinger = failure
mark Locked = failure

-- the tally: the IDs that are listed, in their order, each one's level, and the parameters
pub record Tally : Type 0 where
  pub ids : List ℕ
  pub level : ℕ → Option Level
  pub settings : Settings

abbrev pub blank : Tally
blank = record { ids = []; level = λ _. None; settings = fresh_settings }

abbrev pub has : ℕ → List ℕ → Bool
has id [] = false
has id (x ∷ xs) = x == id || has id xs

abbrev pub strike : ℕ → List ℕ → List ℕ
strike id [] = []
strike id (x ∷ xs) = cond (x == id) (strike id xs) (x ∷ strike id xs)

-- an enrolment: with flag 0 the ID is struck first; it then comes behind the others, as often as places are needed
abbrev pub enrolled_in : ℕ → ℕ → ℕ → Tally → Tally
enrolled_in id flag needed y = record {
  ids = cond (flag == 0) (strike id y.ids) y.ids ++ replicate needed id;
  level = y.level;
  settings = y.settings;
}

abbrev pub struck_from : ℕ → Tally → Tally
struck_from id y = record { ids = strike id y.ids; level = y.level; settings = y.settings }

abbrev pub level_wanted : Option Wanted → Option Level
level_wanted None = None
level_wanted (Some no_level) = None
level_wanted (Some (wanted level)) = Some level

abbrev pub levelled_in : ℕ → ℕ → Tally → Tally
levelled_in id flag y = record {
  ids = y.ids;
  level = λ i. cond (id == i) (level_wanted (level_in flag)) (y.level i);
  settings = y.settings;
}

-- SW: the parameter that it writes
abbrev pub settings_with : Settings → Option Setting → Settings
settings_with p None = p
settings_with p (Some x) = set p x

abbrev pub setting_for : Option Parameter → ℕ → Option Setting
setting_for None value = None
setting_for (Some parameter) value = setting_of parameter value

abbrev pub written_in : ℕ → ℕ → Tally → Tally
written_in flag value y = record {
  ids = y.ids;
  level = y.level;
  settings = settings_with y.settings (setting_for (case_of parameter_number parameters flag) value);
}

-- what a SUCCESS does, by its request's command
abbrev pub succeeded_by : Command → RequestParts → Outcome → Tally → Tally
succeeded_by WriteParameter q o y = written_in q.flag q.size y
succeeded_by ReadParameter q o y = y
succeeded_by Enroll q o y = enrolled_in o.param q.flag (templates_in y.settings.enroll) y
succeeded_by EnrollTemplate q o y = enrolled_in o.param q.flag 1 y
succeeded_by Verify q o y = y
succeeded_by Identify q o y = y
succeeded_by ReadTemplate q o y = y
succeeded_by Delete q o y = struck_from q.param y
succeeded_by DeleteAll q o y = record { ids = []; level = y.level; settings = y.settings }
succeeded_by ListTemplates q o y = y
succeeded_by Cancel q o y = y
succeeded_by WriteLevel q o y = levelled_in q.param q.flag y
succeeded_by EnrollByAdministrator q o y = enrolled_in o.param q.flag (templates_in y.settings.enroll) y
succeeded_by DeleteByAdministrator q o y = struck_from o.param y
succeeded_by Unlock q o y = y
succeeded_by Lock q o y = y
succeeded_by ChangePassword q o y = y

-- an ID that is left unlisted loses its level
abbrev pub settled : Tally → Tally
settled y = record { ids = y.ids; level = λ i. cond (has i y.ids) (y.level i) None; settings = y.settings }

abbrev pub succeeded : Coded Command → RequestParts → Outcome → Tally → Tally
succeeded (Known c) q o y = settled (succeeded_by c q o y)
succeeded (Unknown n) q o y = y

abbrev pub credited : Owner → Outcome → Tally → Tally
credited nobody o y = y
credited (owner n q) o y = succeeded q.command q o y

-- any outcome but SUCCESS leaves the tally
abbrev pub counted : Mark → Owner → Outcome → Tally → Tally
counted scan w o y = y
counted grant w o y = y
counted success w o y = credited w o y
counted failure w o y = y

abbrev pub tally : List Told → Tally
tally [] = blank
tally (t ∷ ts) = counted (mark t.out.code) t.of t.out (tally ts)
