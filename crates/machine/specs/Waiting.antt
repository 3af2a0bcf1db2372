-- What a finger and a second do, by what is awaited when they come.
use Rattle.std.specs.Prelude.{ℕ, ◌-◌, max, cond, not, ◌&&◌, ◌||◌, List, [], ◌∷◌, length, is_some, Some, None}
use Rattle.std.specs.Prelude.{Option, ◌==◌, nat_lt}
use Rattle.codes.specs.declared.code.Code.{Code}
use Rattle.codes.specs.declared.code.Code.TheVariants.{
  Success,
  ScanSuccess,
  ScanFail,
  NotFound,
  NotMatch,
  TryAgain,
  TimeOut,
  Continue,
  Unsupported,
  ExistFinger,
}
use Rattle.machine.specs.Administrators.{is_admin, level_of, may_delete, may_enroll, struck}
use Rattle.machine.specs.Answers.{Said, Step, go, tell}
use Rattle.machine.specs.Enrollment.{enrolled, looks_up}
use Rattle.machine.specs.Searches.{agrees, any_agrees, found_by, found_in, found_one, without}
use Rattle.machine.specs.State.{Phase, State, Waiting, awaiting, holding}
use Rattle.machine.specs.State.Phase.{
  grant_to_enroll,
  grant_to_delete,
  first_finger,
  second_finger,
  person_to_verify,
  person_to_identify,
  person_to_delete,
}
use Rattle.machine.specs.declared.settings.EnrollMode.{EnrollMode}
use Rattle.machine.specs.declared.settings.EnrollMode.TheVariants.{Once, Twice, TwoTemplates}
use Rattle.machine.specs.declared.settings.Switch.{Switch}
use Rattle.machine.specs.declared.settings.Switch.TheVariants.{Off, On}
use Rattle.machine.specs.declared.enrollment.Enrollment.{Enrollment}

-- a good scan is answered first, where the parameter says so
abbrev pub scanned : Switch → Waiting → List Said → List Said
scanned Off w xs = xs
scanned On w xs = tell w 0 0 ScanSuccess ∷ xs

-- an outcome of a good scan that ends the request
abbrev pub ended : State → Waiting → ℕ → ℕ → Code → Step
ended s w param size code = go (awaiting s None) (scanned s.settings.scans w (tell w param size code ∷ []))

-- the request ends without a good scan
abbrev pub broken_off : State → Waiting → Code → Step
broken_off s w code = go (awaiting s None) (tell w 0 0 code ∷ [])

-- the request goes on to wait for another finger, with a wait of its own
abbrev pub goes_on : State → Waiting → Phase → List Said → Step
goes_on s w phase xs =
    go (awaiting s (Some (record { form = w.form; phase = phase; left = s.settings.timeout })))
    (scanned s.settings.scans w xs)

-- an administrator's finger: CONTINUE with the ID of the oldest template that agrees, among those whose level allows
-- the request
abbrev pub granted : State → Waiting → Phase → Option (ℕ × ℕ) → Step
granted s w phase None = ended s w 0 0 NotMatch
granted s w phase (Some x) = goes_on s w phase (tell w x.0 0 Continue ∷ [])

-- an enrolment is done: the ID, and the best quality of its fingers
abbrev pub done : State → Waiting → Enrollment → List (List ℕ) → ℕ → Step
done s w e templates quality = ended (enrolled s e templates) w e.id quality Success

-- the first finger
abbrev pub first : State → Waiting → Enrollment → EnrollMode → List ℕ → ℕ → Step
first s w e Once scan quality = done s w e (scan ∷ []) quality
first s w e Twice scan quality = goes_on s w (second_finger e scan quality) []
first s w e TwoTemplates scan quality = goes_on s w (second_finger e scan quality) []

-- the better of two scans, the first on equal quality
abbrev pub better : List ℕ → ℕ → List ℕ → ℕ → List ℕ
better one q1 two q2 = cond (nat_lt q1 q2) two one

-- the templates of two scans
abbrev pub templates_of : EnrollMode → List ℕ → ℕ → List ℕ → ℕ → List (List ℕ)
templates_of Once one q1 two q2 = better one q1 two q2 ∷ []
templates_of Twice one q1 two q2 = better one q1 two q2 ∷ []
templates_of TwoTemplates one q1 two q2 = one ∷ two ∷ []

-- the second finger, once it agrees with the first
abbrev pub second : State → Waiting → Enrollment → EnrollMode → List ℕ → ℕ → List ℕ → ℕ → Step
second s w e mode one q1 two q2 = done s w e (templates_of mode one q1 two q2) (max q1 q2)

-- a person whom VS or IS looked for, and the code that says that none was found
abbrev pub recognized : State → Waiting → Code → Option (ℕ × ℕ) → Step
recognized s w missed None = ended s w 0 0 missed
recognized s w missed (Some x) = ended s w x.0 x.1 Success

abbrev pub verified : State → Waiting → Option (ℕ × ℕ) → Step
verified s w x = recognized s w NotMatch x

abbrev pub identified : State → Waiting → Option (ℕ × ℕ) → Step
identified s w x = recognized s w NotFound x

-- DSA deletes the person's templates, but not an administrator's
abbrev pub deleted : State → Waiting → Option (ℕ × ℕ) → Step
deleted s w None = ended s w 0 0 NotFound
deleted s w (Some x) =
    cond (is_some (level_of x.0 s.admins)) (ended s w 0 0 Unsupported)
    (ended (holding s (without x.0 s.held) (struck x.0 s.admins)) w x.0 0 Success)

-- a good scan, by what is awaited
abbrev pub pressed : State → Waiting → Phase → List ℕ → ℕ → Step
pressed s w (grant_to_enroll e) scan quality =
    granted s w (first_finger e) (found_by s (is_admin may_enroll s.admins) scan)
pressed s w (grant_to_delete range) scan quality =
    granted s w (person_to_delete range) (found_by s (is_admin may_delete s.admins) scan)
pressed s w (first_finger e) scan quality =
    cond (looks_up e.flag && any_agrees s scan) (ended s w 0 0 ExistFinger) (first s w e s.settings.enroll scan quality)
pressed s w (second_finger e one q1) scan quality =
    cond (agrees s scan one) (second s w e s.settings.enroll one q1 scan quality) (ended s w 0 0 TryAgain)
pressed s w (person_to_verify id) scan quality = verified s w (found_one s id scan)
pressed s w (person_to_identify range) scan quality = identified s w (found_in s range scan)
pressed s w (person_to_delete range) scan quality = deleted s w (found_in s range scan)

-- a scan of another length than a template's or a quality above 100 fails, one below 30 is to be tried again
abbrev pub judged : {X : Type 0} → ℕ → ℕ → ℕ → (Code → X) → X → X
judged long size quality bad good =
    cond (not (long == size) || nat_lt 100 quality) (bad ScanFail) (cond (nat_lt quality 30) (bad TryAgain) good)

-- a finger
abbrev pub on_finger : State → Option Waiting → List ℕ → ℕ → Step
on_finger s None scan quality = go s []
on_finger s (Some w) scan quality =
    judged (length scan) s.size quality (broken_off s w) (pressed s w w.phase scan quality)

-- a second: a wait of n seconds ends with the n-th; one without end (0) goes on
abbrev pub on_second : State → Option Waiting → Step
on_second s None = go s []
on_second s (Some w) =
    cond (w.left == 1) (broken_off s w TimeOut)
    (go (awaiting s (Some (record { form = w.form; phase = w.phase; left = w.left - 1 }))) [])
