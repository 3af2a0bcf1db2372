-- What an idle module makes of a request, command by command.
use Rattle.std.specs.Prelude.{ℕ, ◌+◌, ◌-◌, ◌*◌, Bool, true, false, cond, not, ◌&&◌, List, [], ◌∷◌, map, length}
use Rattle.std.specs.Prelude.{take, drop, Some, None, Option, ◌==◌, nat_le}
use Rattle.codes.specs.Flags.{flag_number, flags}
use Rattle.codes.specs.Numbers.{case_of}
use Rattle.codes.specs.Parameters.{parameter_number, parameters}
use Rattle.codes.specs.declared.code.Code.{Code}
use Rattle.codes.specs.declared.code.Code.TheVariants.{
  Success,
  NotFound,
  NotMatch,
  TryAgain,
  MemFull,
  Unsupported,
  InvalidId,
  ExistFinger,
}
use Rattle.codes.specs.declared.command.Command.{Command}
use Rattle.codes.specs.declared.command.Command.TheVariants.{
  WriteParameter,
  ReadParameter,
  Enroll,
  EnrollTemplate,
  Verify,
  Identify,
  ReadTemplate,
  Delete,
  DeleteAll,
  ListTemplates,
  Cancel,
  WriteLevel,
  EnrollByAdministrator,
  DeleteByAdministrator,
  Unlock,
  Lock,
  ChangePassword,
}
use Rattle.codes.specs.declared.numbered.Coded.{Coded}
use Rattle.codes.specs.declared.numbered.Coded.TheVariants.{Known, Unknown}
use Rattle.codes.specs.declared.parameter.Parameter.{Parameter}
use Rattle.codes.specs.declared.parameter.Parameter.TheVariants.{
  Timeout,
  TemplateSize,
  EnrollMode,
  SecurityLevel,
  ModuleId,
  EnrolledFinger,
  AvailableFinger,
  SendScanSuccess,
  NetworkMode,
}
use Rattle.matcher.specs.Levels.{level_number}
use Rattle.memory.specs.Held.{held_at}
use Rattle.packet.specs.Numbers.{bytes32, le16, password_sum}
use Rattle.packet.specs.Requests.{RequestParts}
use Rattle.search.specs.Ids.{count_of, place_of}
use Rattle.std.specs.List.{flat_map}
use Rattle.std.specs.Str.{bytes_eq}
use Rattle.std.specs.Option.{option_map}
use Rattle.machine.specs.AdminLevels.{admin_level_number, admin_levels}
use Rattle.machine.specs.Administrators.{any_admin, may_delete, may_enroll, struck, written}
use Rattle.machine.specs.Answers.{Said, Step, answer, answer_data, go, just}
use Rattle.machine.specs.Enrollment.{enroll_fault, enroll_id, enrolled, looks_up}
use Rattle.machine.specs.Ids.{is_id, range_of}
use Rattle.machine.specs.Searches.{any_agrees, without}
use Rattle.machine.specs.Settings.{enroll_mode_number, network_number, set, setting_of, switch_number, templates_in}
use Rattle.machine.specs.State.{Phase, State, awaiting, configured, guarded, holding, locking}
use Rattle.machine.specs.State.Phase.{grant_to_enroll, grant_to_delete, first_finger, person_to_verify}
use Rattle.machine.specs.State.Phase.{person_to_identify}
use Rattle.machine.specs.declared.level.Level.{Level}
use Rattle.machine.specs.declared.enrollment.Enroller.{Enroller}
use Rattle.machine.specs.declared.enrollment.Enroller.TheVariants.{Host, Administrator}
use Rattle.machine.specs.declared.enrollment.Enrollment.{Enrollment}

-- a step that needs something, and another where it is not there
abbrev pub given : {X : Type 0} → Option X → Step → (X → Step) → Step
given None other f = other
given (Some x) other f = f x

-- a step that something stands in the way of
abbrev pub unless : Option Code → (Code → Step) → Step → Step
unless None fail step = step
unless (Some code) fail step = fail code

-- a request starts to wait, without an outcome yet
abbrev pub wait_for : State → RequestParts → Phase → Step
wait_for s q phase = go (awaiting s (Some (record { form = q.form; phase = phase; left = s.settings.timeout }))) []

-- SW
abbrev pub write_parameter : State → RequestParts → Step
write_parameter s q =
    given (case_of parameter_number parameters q.flag) (just s q Unsupported) (λ parameter.
    given (setting_of parameter q.size) (just s q Unsupported) (λ setting.
    just (configured s (set s.settings setting)) q Success))

-- the value of a parameter
abbrev pub parameter_value : State → Parameter → ℕ
parameter_value s Timeout = 0x30 + s.settings.timeout
parameter_value s TemplateSize = s.size
parameter_value s EnrollMode = enroll_mode_number s.settings.enroll
parameter_value s SecurityLevel = level_number s.settings.security
parameter_value s ModuleId = s.own
parameter_value s EnrolledFinger = length s.held
parameter_value s AvailableFinger = s.room - length s.held
parameter_value s SendScanSuccess = switch_number s.settings.scans
parameter_value s NetworkMode = network_number s.settings.network

-- SR
abbrev pub read_parameter : State → RequestParts → Step
read_parameter s q =
    given (case_of parameter_number parameters q.flag) (just s q Unsupported) (λ parameter.
    go s (answer q 0 (parameter_value s parameter) Success))

-- a password of 16 bytes from a place on, and the sum behind it
abbrev pub password_at : ℕ → List ℕ → List ℕ
password_at i bs = take 16 (drop i bs)

abbrev pub sum_right : ℕ → List ℕ → Bool
sum_right i bs = le16 bs (i + 16) == password_sum (password_at i bs)

-- UM: password, sum
abbrev pub unlock : State → RequestParts → Step
unlock s q =
    cond (not (q.size == 18)) (just s q Unsupported)
    (cond (not (sum_right 0 q.«data»)) (just s q TryAgain)
    (cond (bytes_eq (password_at 0 q.«data») s.password) (just (locking s false) q Success) (just s q NotMatch)))

-- MP: old password, sum, new password, sum
abbrev pub change_password : State → RequestParts → Step
change_password s q =
    cond (not (q.size == 36)) (just s q Unsupported)
    (cond (not (sum_right 0 q.«data» && sum_right 18 q.«data»)) (just s q TryAgain)
    (cond (bytes_eq (password_at 0 q.«data») s.password)
    (just (guarded s (password_at 18 q.«data»)) q Success) (just s q NotMatch)))

-- the tests that every enrolment begins with; `missing`: an administrator is wanted and there is none
abbrev pub enroll : State → RequestParts → Enroller → Bool → ℕ → (Enrollment → Step) → Step
enroll s q by missing needed f =
    given (case_of flag_number flags q.flag) (just s q Unsupported) (λ flag.
    given (enroll_id s flag q.param) (just s q InvalidId) (λ id.
    cond missing (just s q Unsupported)
    (unless (enroll_fault s flag id needed) (just s q) (f (record { id = id; flag = flag; by = by })))))

-- whether an administrator is wanted and there is none who may let others enrol
abbrev pub is_missing : State → Enroller → Bool
is_missing s Host = false
is_missing s Administrator = not (any_admin may_enroll s.admins)

-- what comes first: an administrator's finger, where one lets enrol
abbrev pub first_phase : Enroller → Enrollment → Phase
first_phase Host e = first_finger e
first_phase Administrator e = grant_to_enroll e

-- ES and ESA
abbrev pub enroll_by : Enroller → State → RequestParts → Step
enroll_by by s q =
    enroll s q by (is_missing s by) (templates_in s.settings.enroll) (λ e. wait_for s q (first_phase by e))

-- ET: one template, which comes as data, is enrolled at once
abbrev pub enroll_now : State → RequestParts → Enrollment → Step
enroll_now s q e =
    cond (looks_up e.flag && any_agrees s q.«data») (just s q ExistFinger)
    (go (enrolled s e (q.«data» ∷ [])) (answer q e.id 0 Success))

abbrev pub enroll_template : State → RequestParts → Step
enroll_template s q = cond (not (q.size == s.size)) (just s q Unsupported) (enroll s q Host false 1 (enroll_now s q))

-- what is for an ID with templates, where Param has one
abbrev pub for_held : {X : Type 0} → State → ℕ → (Code → X) → X → X
for_held s param fail x =
    cond (not (is_id param)) (fail InvalidId)
    (cond (count_of param s.held == 0) (fail NotFound) x)

-- VS
abbrev pub verify : State → RequestParts → Step
verify s q = for_held s q.param (just s q) (wait_for s q (person_to_verify q.param))

-- DT: the templates go, and with the last of them the administrator's row
abbrev pub delete : State → RequestParts → Step
delete s q =
    for_held s q.param (just s q) (just (holding s (without q.param s.held) (struck q.param s.admins)) q Success)

-- LT: the block of IDs that is asked for
abbrev pub block : ℕ → ℕ → List ℕ → List ℕ
block index size ids = cond (size == 0) ids (take size (drop (index * size) ids))

-- IDs are answered with their number in Param and 4 times it in Size
abbrev pub answer_ids : RequestParts → List ℕ → List Said
answer_ids q ids = answer_data q (length ids) (4 * length ids) Success (flat_map bytes32 ids)

abbrev pub list : State → RequestParts → Step
list s q =
    let ids = block q.param q.size (map (λ e. e.id) s.held) in
    cond (not (q.size == 0) && nat_le (length s.held) (q.param * q.size)) (just s q InvalidId)
    (go s (answer_ids q ids))

-- RT: a template of an ID, by its number
abbrev pub read_template : State → RequestParts → Step
read_template s q =
    cond (not (is_id q.param)) (just s q InvalidId)
    (given (place_of q.param q.size s.held) (just s q NotFound) (λ place.
    go s (answer_data q 0 s.size Success (held_at s.held place).template)))

-- the level in a flag: none for 0
pub data Wanted : Type 0 where
  no_level : Wanted
  wanted : Level → Wanted

abbrev pub level_in : ℕ → Option Wanted
level_in n = cond (n == 0) (Some no_level) (option_map wanted (case_of admin_level_number admin_levels n))

-- AW, once the ID is known to have templates: level 0 strikes the row, another is written
abbrev pub levelled : State → RequestParts → Wanted → Step
levelled s q no_level = just (holding s s.held (struck q.param s.admins)) q Success
levelled s q (wanted level) =
    written q.param level s.admins (just s q MemFull) (λ rows. just (holding s s.held rows) q Success)

abbrev pub write_level : State → RequestParts → Step
write_level s q =
    given (level_in q.flag) (just s q Unsupported) (λ level.
    for_held s q.param (just s q) (levelled s q level))

-- a request by a known command
abbrev pub known : State → RequestParts → Command → Step
known s q WriteParameter = write_parameter s q
known s q ReadParameter = read_parameter s q
known s q Enroll = enroll_by Host s q
known s q EnrollTemplate = enroll_template s q
known s q Verify = verify s q
known s q Identify = given (range_of q.param) (just s q InvalidId) (λ range. wait_for s q (person_to_identify range))
known s q ReadTemplate = read_template s q
known s q Delete = delete s q
known s q DeleteAll = just (holding s [] []) q Success
known s q ListTemplates = list s q
known s q Cancel = just s q NotFound
known s q WriteLevel = write_level s q
known s q EnrollByAdministrator = enroll_by Administrator s q
known s q DeleteByAdministrator =
    given (range_of q.param) (just s q InvalidId) (λ range.
    cond (not (any_admin may_delete s.admins)) (just s q Unsupported) (wait_for s q (grant_to_delete range)))
known s q Unlock = unlock s q
known s q Lock = just (locking s true) q Success
known s q ChangePassword = change_password s q

abbrev pub started : State → RequestParts → Coded Command → Step
started s q (Known c) = known s q c
started s q (Unknown n) = just s q Unsupported
