-- What a call says names a command that was read, and has the data that belongs to it; so its bytes read back.
use Rattle.std.proofs.Common.{◌≡◌, ℕ, ◌+◌, ◌-◌, ◌*◌, ◌<◌, max, Bool, true, false, cond, not, ◌&&◌, ◌||◌, eqb, ltb, leb}
use Rattle.std.proofs.Common.{List, [], ◌∷◌, length, is_some, Some, None, Ok, Err, Option, Result, sym, refl, ap, ◌∙◌}
use Rattle.std.proofs.Common.{subst, arith}
use Rattle.codes.proofs.Back.{byte-back}
use Rattle.codes.proofs.Known.{known-command}
use Rattle.codes.specs.Codes.{code_number}
use Rattle.codes.specs.Coded.{coded}
use Rattle.codes.specs.Commands.{command_number, commands}
use Rattle.codes.specs.Flags.{flag_number, flags}
use Rattle.codes.specs.Numbers.{case_of}
use Rattle.codes.specs.Parameters.{parameter_number, parameters}
use Rattle.codes.specs.declared.code.Code.{Code}
use Rattle.codes.specs.declared.code.Code.TheVariants.{
  Success,
  ScanSuccess,
  ScanFail,
  NotFound,
  NotMatch,
  TryAgain,
  TimeOut,
  Continue,
  Unsupported,
  InvalidId,
  Busy,
  Canceled,
  ExistFinger,
  Locked,
}
use Rattle.codes.specs.declared.command.Command.{Command}
use Rattle.codes.specs.declared.command.Command.TheVariants.{
  WriteParameter,
  ReadParameter,
  Enroll,
  EnrollTemplate,
  Verify,
  Identify,
  ReadTemplate,
  Delete,
  DeleteAll,
  ListTemplates,
  Cancel,
  WriteLevel,
  EnrollByAdministrator,
  DeleteByAdministrator,
  Unlock,
  Lock,
  ChangePassword,
}
use Rattle.codes.specs.declared.network.NetworkMode.{NetworkMode}
use Rattle.codes.specs.declared.numbered.Coded.{Coded}
use Rattle.codes.specs.declared.numbered.Coded.TheVariants.{Known, Unknown}
use Rattle.codes.specs.declared.refusal.Refusal.{Refusal}
use Rattle.memory.proofs.Blocks.{length-fours}
use Rattle.memory.specs.Held.{Held, Sound, held_at, none}
use Rattle.packet.proofs.Trips.{read-in, reply-form-fits}
use Rattle.packet.specs.Data.{answers_with_data, known_among}
use Rattle.packet.specs.Numbers.{bytes32}
use Rattle.packet.specs.Requests.{RequestParts, read_request}
use Rattle.packet.specs.Responses.{reply_form}
use Rattle.packet.specs.Trips.{AsRead, Belongs}
use Rattle.search.specs.Ids.{count_of, place_from, place_of}
use Rattle.std.proofs.ByRecursion.{All-get_or}
use Rattle.std.specs.List.{AllByRecursion}
use Rattle.std.specs.Str.{bytes_eq}
use Rattle.machine.specs.Administrators.{any_admin, is_admin, level_of, may_delete, may_enroll}
use Rattle.machine.specs.Answers.{Said, Step, answer_data, bytes_of, go, just, tell}
use Rattle.machine.specs.Enrollment.{enroll_fault, enroll_id, looks_up}
use Rattle.machine.specs.Ids.{is_id, range_of}
use Rattle.machine.specs.Machine.{Call, Event, asked, heard, on_event, requested, step_of}
use Rattle.machine.specs.Machine.Event.{packet, finger, second}
use Rattle.machine.specs.Requests.{Wanted, enroll, enroll_now, known, level_in, levelled, parameter_value, password_at}
use Rattle.machine.specs.Requests.{started, sum_right, wait_for}
use Rattle.machine.specs.Requests.Wanted.{no_level, wanted}
use Rattle.machine.specs.Searches.{agrees, any_agrees, found_by, found_in, found_one}
use Rattle.machine.specs.Settings.{setting_of, templates_in}
use Rattle.machine.specs.State.{Phase, State, Waiting, command_of, enroll_command}
use Rattle.machine.specs.State.Phase.{
  grant_to_enroll,
  grant_to_delete,
  first_finger,
  second_finger,
  person_to_verify,
  person_to_identify,
  person_to_delete,
}
use Rattle.machine.specs.Waiting.{deleted, first, granted, identified, on_finger, on_second, pressed, scanned}
use Rattle.machine.specs.Waiting.{second as second_scan, verified}
use Rattle.machine.specs.declared.enrollment.Enroller.{Enroller}
use Rattle.machine.specs.declared.enrollment.Enroller.TheVariants.{Host, Administrator}
use Rattle.machine.specs.declared.enrollment.Enrollment.{Enrollment}
use Rattle.machine.specs.declared.settings.EnrollMode.{EnrollMode}
use Rattle.machine.specs.declared.settings.EnrollMode.TheVariants.{Once, Twice, TwoTemplates}
use Rattle.machine.specs.declared.settings.Switch.{Switch}
use Rattle.machine.specs.declared.settings.Switch.TheVariants.{Off, On}
use Rattle.promises.specs.Sent.{ProperReads, SaysProper, ProperSaid, sent_of}
use Rattle.promises.proofs.Reading.{by-frame}
use Rattle.promises.proofs.Ways.{by-given, by-test, by-unless, given-some, some-none}

record Proper (x : Step) : Type 0 where
  all : AllByRecursion ProperSaid x.said

-- no data belongs where Size is 0, and behind an outcome that carries none
none-belongs : (b : Bool) → Belongs b 0 []
none-belongs true = refl
none-belongs false = refl

without-data : (b : Bool) (size : ℕ) → b ≡ false → Belongs b size []
without-data b size e = let P : Bool → Type 0 = λ v. Belongs v size [] in subst P (sym e) refl

with-data : (b : Bool) (size : ℕ) (bs : List ℕ) → b ≡ true → length bs ≡ size → Belongs b size bs
with-data b size bs e l = let P : Bool → Type 0 = λ v. Belongs v size bs in subst P (sym e) l

-- no request that waits is LT or RT
enrolls : (by : Enroller) → known_among command_number (ListTemplates ∷ ReadTemplate ∷ []) (Known (enroll_command by)) ≡ false
enrolls Host = refl
enrolls Administrator = refl

carries-none : (phase : Phase) → known_among command_number (ListTemplates ∷ ReadTemplate ∷ []) (Known (command_of phase)) ≡ false
carries-none (grant_to_enroll e) = enrolls e.by
carries-none (grant_to_delete range) = refl
carries-none (first_finger e) = enrolls e.by
carries-none (second_finger e one quality) = enrolls e.by
carries-none (person_to_verify id) = refl
carries-none (person_to_identify range) = refl
carries-none (person_to_delete range) = refl

tells : (w : Waiting) (param size : ℕ) (code : Code) → ProperSaid (tell w param size code)
tells w param size code = record {
  as_read = known-command (command_of w.phase);
  data_belongs = without-data _ size (ap (λ b. b && known_among code_number (Success ∷ []) (Known code)) (carries-none w.phase));
}

-- a finger, while something waits
module _ (s : State) (w : Waiting) (scan : List ℕ) (quality : ℕ) where
  scans : (on : Switch) (t : State) (xs : List Said) → AllByRecursion ProperSaid xs → Proper (go t (scanned on w xs))
  scans Off t xs a = record { all = a }
  scans On t xs a = record { all = (tells w 0 0 ScanSuccess, a) }

  goes : (t : State) → Proper (go t (scanned s.settings.scans w []))
  goes t = scans s.settings.scans t [] tt

  ends : (t : State) (param size : ℕ) (code : Code) → Proper (go t (scanned s.settings.scans w (tell w param size code ∷ [])))
  ends t param size code = scans s.settings.scans t (tell w param size code ∷ []) (tells w param size code, tt)

  on-granted : (phase : Phase) (x : Option (ℕ × ℕ)) → Proper (granted s w phase x)
  on-granted phase None = ends _ 0 0 NotMatch
  on-granted phase (Some x) = ends _ x.0 0 Continue

  on-first : (e : Enrollment) (m : EnrollMode) → Proper (first s w e m scan quality)
  on-first e Once = ends _ e.id quality Success
  on-first e Twice = goes _
  on-first e TwoTemplates = goes _

  on-second-scan : (e : Enrollment) (m : EnrollMode) (one : List ℕ) (q1 : ℕ) → Proper (second_scan s w e m one q1 scan quality)
  on-second-scan e Once one q1 = ends _ e.id (max q1 quality) Success
  on-second-scan e Twice one q1 = ends _ e.id (max q1 quality) Success
  on-second-scan e TwoTemplates one q1 = ends _ e.id (max q1 quality) Success

  on-verified : (x : Option (ℕ × ℕ)) → Proper (verified s w x)
  on-verified None = ends _ 0 0 NotMatch
  on-verified (Some x) = ends _ x.0 x.1 Success

  on-identified : (x : Option (ℕ × ℕ)) → Proper (identified s w x)
  on-identified None = ends _ 0 0 NotFound
  on-identified (Some x) = ends _ x.0 x.1 Success

  on-deleted : (x : Option (ℕ × ℕ)) → Proper (deleted s w x)
  on-deleted None = ends _ 0 0 NotFound
  on-deleted (Some x) =
      by-test Proper (is_some (level_of x.0 s.admins)) _ _ (λ _. ends _ 0 0 Unsupported) (λ _. ends _ x.0 0 Success)

  on-pressed : (p : Phase) → Proper (pressed s w p scan quality)
  on-pressed (grant_to_enroll e) = on-granted _ (found_by s (is_admin may_enroll s.admins) scan)
  on-pressed (grant_to_delete range) = on-granted _ (found_by s (is_admin may_delete s.admins) scan)
  on-pressed (first_finger e) =
      by-test Proper (looks_up e.flag && any_agrees s scan) _ _ (λ _. ends _ 0 0 ExistFinger) (λ _. on-first e s.settings.enroll)
  on-pressed (second_finger e one q1) =
      by-test Proper (agrees s scan one) _ _ (λ _. on-second-scan e s.settings.enroll one q1) (λ _. ends _ 0 0 TryAgain)
  on-pressed (person_to_verify id) = on-verified (found_one s id scan)
  on-pressed (person_to_identify range) = on-identified (found_in s range scan)
  on-pressed (person_to_delete range) = on-deleted (found_in s range scan)

one_told : (t : State) (w : Waiting) (code : Code) → Proper (go t (tell w 0 0 code ∷ []))
one_told t w code = record { all = (tells w 0 0 code, tt) }

on-finger : (s : State) (w : Option Waiting) (scan : List ℕ) (quality : ℕ) → Proper (on_finger s w scan quality)
on-finger s None scan quality = record { all = tt }
on-finger s (Some w) scan quality =
    by-test Proper (not (eqb (length scan) s.size) || ltb 100 quality) _ _ (λ _. one_told _ w ScanFail)
    (λ _. by-test Proper (ltb quality 30) _ _ (λ _. one_told _ w TryAgain) (λ _. on-pressed s w scan quality w.phase))

on-second : (s : State) (w : Option Waiting) → Proper (on_second s w)
on-second s None = record { all = tt }
on-second s (Some w) = by-test Proper (eqb w.left 1) _ _ (λ _. one_told _ w TimeOut) (λ _. record { all = tt })

-- a template that is found by its number is held
place_inside : (from id number : ℕ) (h : List Held) (place : ℕ) → place_from from id number h ≡ Some place → place < from + length h
place_inside from id number [] place e = some-none place e
place_inside from id number (x ∷ h) place e =
    at (eqb x.id id) (eqb number 0) e (place_inside (from + 1) id (number - 1) h place) (place_inside (from + 1) id number h place)
  where
    at : (a b : Bool) → cond a (cond b (Some from) (place_from (from + 1) id (number - 1) h))
        (place_from (from + 1) id number h) ≡ Some place
        → (place_from (from + 1) id (number - 1) h ≡ Some place → place < from + 1 + length h)
        → (place_from (from + 1) id number h ≡ Some place → place < from + 1 + length h) → place < from + length (x ∷ h)
    at true true e f g = let z : from ≡ place = cc in omega arith
    at true false e f g = omega (arith, f e)
    at false b e f g = omega (arith, g e)

-- a packet was accepted: the request `q`, of a module over a sound memory
module _ (s : State) (sound : AllByRecursion (Sound s.size) s.held) (q : RequestParts) (read : AsRead q.command) where
  plain : (t : State) (param : ℕ) (code : Code) → Proper (go t (answer_data q param 0 code []))
  plain t param code = record { all = (record { as_read = read; data_belongs = none-belongs _ }, tt) }

  fails : (code : Code) → Proper (just s q code)
  fails code = plain s 0 code

  waits : (phase : Phase) → Proper (wait_for s q phase)
  waits phase = record { all = tt }

  carrying : (c : Command) → q.command ≡ Known c → answers_with_data (Known c) (Known Success) ≡ true → (param size : ℕ) (bs : List ℕ)
      → length bs ≡ size → Proper (go s (answer_data q param size Success bs))
  carrying c e d param size bs l =
      record {
        all = (
          record {
            as_read = read;
            data_belongs = with-data _ size bs (ap (λ x. answers_with_data x (Known Success)) e ∙ d) l;
          },
          tt,
        );
      }

  on-enroll : (by : Enroller) (missing : Bool) (needed : ℕ) (f : Enrollment → Step) → ((e : Enrollment) → Proper (f e))
      → Proper (enroll s q by missing needed f)
  on-enroll by missing needed f p =
      by-given Proper (case_of flag_number flags q.flag) _ _ (fails Unsupported) (λ flag.
      by-given Proper (enroll_id s flag q.param) _ _ (fails InvalidId) (λ id.
      by-test Proper missing _ _ (λ _. fails Unsupported) (λ _.
      by-unless Proper (enroll_fault s flag id needed) _ _ fails (p (record { id = id; flag = flag; by = by })))))

  on-levelled : (l : Wanted) → Proper (levelled s q l)
  on-levelled no_level = plain _ 0 Success
  on-levelled (wanted level) =
      by-test Proper (is_some (level_of q.param s.admins)) _ _ (λ _. plain _ 0 Success)
      (λ _. by-test Proper (ltb (length s.admins) 16) _ _ (λ _. plain _ 0 Success) (λ _. plain _ 0 _))

  on-now : (e : Enrollment) → Proper (enroll_now s q e)
  on-now e = by-test Proper (looks_up e.flag && any_agrees s q.«data») _ _ (λ _. fails ExistFinger) (λ _. plain _ e.id Success)

  on-known : (c : Command) → q.command ≡ Known c → Proper (known s q c)
  on-known WriteParameter k =
      by-given Proper (case_of parameter_number parameters q.flag) _ _ (fails Unsupported) (λ p.
      by-given Proper (setting_of p q.size) _ _ (fails Unsupported) (λ _. plain _ 0 Success))
  on-known ReadParameter k =
      by-given Proper (case_of parameter_number parameters q.flag) _ _ (fails Unsupported) (λ p.
      record {
        all = (
          record {
            as_read = read;
            data_belongs = without-data _ (parameter_value s p) (ap (λ x. answers_with_data x (Known Success)) k);
          },
          tt,
        );
      })
  on-known Enroll k =
      on-enroll Host false (templates_in s.settings.enroll) (λ e. wait_for s q (first_finger e)) (λ e. waits (first_finger e))
  on-known EnrollTemplate k =
      by-test Proper (not (eqb q.size s.size)) _ _ (λ _. fails Unsupported) (λ _. on-enroll Host false 1 (enroll_now s q) on-now)
  on-known Verify k =
      by-test Proper (not (is_id q.param)) _ _ (λ _. fails InvalidId)
      (λ _. by-test Proper (eqb (count_of q.param s.held) 0) _ _ (λ _. fails NotFound) (λ _. waits (person_to_verify q.param)))
  on-known Identify k = by-given Proper (range_of q.param) _ _ (fails InvalidId) (λ range. waits (person_to_identify range))
  on-known ReadTemplate k =
      by-test Proper (not (is_id q.param)) _ _ (λ _. fails InvalidId)
      (λ _. given-some Proper (place_of q.param q.size s.held) _ _ (fails NotFound) (λ place p.
      carrying ReadTemplate k refl 0 s.size (held_at s.held place).template
      (All-get_or (Sound s.size) s.held place none (omega (arith, place_inside 0 q.param q.size s.held place p)) sound).2))
  on-known Delete k =
      by-test Proper (not (is_id q.param)) _ _ (λ _. fails InvalidId)
      (λ _. by-test Proper (eqb (count_of q.param s.held) 0) _ _ (λ _. fails NotFound) (λ _. plain _ 0 Success))
  on-known DeleteAll k = plain _ 0 Success
  on-known ListTemplates k =
      by-test Proper (not (eqb q.size 0) && leb (length s.held) (q.param * q.size)) _ _ (λ _. fails InvalidId)
      (λ _. carrying ListTemplates k refl _ _ _ (length-fours bytes32 (λ _. refl) _))
  on-known Cancel k = fails NotFound
  on-known WriteLevel k =
      by-given Proper (level_in q.flag) _ _ (fails Unsupported) (λ l.
      by-test Proper (not (is_id q.param)) _ _ (λ _. fails InvalidId) (λ _.
      by-test Proper (eqb (count_of q.param s.held) 0) _ _ (λ _. fails NotFound) (λ _. on-levelled l)))
  on-known EnrollByAdministrator k =
      on-enroll Administrator (not (any_admin may_enroll s.admins)) (templates_in s.settings.enroll) (λ e. wait_for s q (grant_to_enroll e))
      (λ e. waits (grant_to_enroll e))
  on-known DeleteByAdministrator k =
      by-given Proper (range_of q.param) _ _ (fails InvalidId) (λ range.
      by-test Proper (not (any_admin may_delete s.admins)) _ _ (λ _. fails Unsupported) (λ _. waits (grant_to_delete range)))
  on-known Unlock k =
      by-test Proper (not (eqb q.size 18)) _ _ (λ _. fails Unsupported) (λ _.
      by-test Proper (not (sum_right 0 q.«data»)) _ _ (λ _. fails TryAgain) (λ _.
      by-test Proper (bytes_eq (password_at 0 q.«data») s.password) _ _ (λ _. plain _ 0 Success) (λ _. fails NotMatch)))
  on-known Lock k = plain _ 0 Success
  on-known ChangePassword k =
      by-test Proper (not (eqb q.size 36)) _ _ (λ _. fails Unsupported) (λ _.
      by-test Proper (not (sum_right 0 q.«data» && sum_right 18 q.«data»)) _ _ (λ _. fails TryAgain) (λ _.
      by-test Proper (bytes_eq (password_at 0 q.«data») s.password) _ _ (λ _. plain _ 0 Success) (λ _. fails NotMatch)))

  on-started : (c : Coded Command) → q.command ≡ c → Proper (started s q c)
  on-started (Known c) k = on-known c k
  on-started (Unknown n) k = fails Unsupported

  on-asked : (w : Option Waiting) → Proper (asked s w q)
  on-asked None = on-started q.command refl
  on-asked (Some w) =
      by-test Proper (known_among command_number (Cancel ∷ []) q.command) _ _
      (λ _. record { all = (tells w 0 0 Canceled, (plain s 0 Success).all) }) (λ _. fails Busy)

  on-requested : Proper (requested s q)
  on-requested =
      by-test Proper s.locked _ _
      (λ _. by-test Proper (known_among command_number (Unlock ∷ []) q.command) _ _ (λ _. on-asked s.waiting) (λ _. fails Locked))
      (λ _. on-asked s.waiting)

-- the command of a request was read from its byte
abbrev CommandRead : Result RequestParts Refusal → Type 0
CommandRead (Ok q) = AsRead q.command
CommandRead (Err e) = Unit {0}

command-read : (mode : NetworkMode) (own : ℕ) (frame : List ℕ) → CommandRead (read_request mode own frame)
command-read mode own frame =
    by-frame CommandRead tt tt tt tt tt tt
    (λ form n param size flag bs whole. ap (coded command_number commands) (byte-back command_number commands n))
    mode own frame

abbrev ProperIf : Result Step Refusal → Type 0
ProperIf (Ok x) = AllByRecursion ProperSaid x.said
ProperIf (Err e) = Unit {0}

module _ (s : State) (sound : AllByRecursion (Sound s.size) s.held) where
  on-heard : (r : Result RequestParts Refusal) → CommandRead r → ProperIf (heard s r)
  on-heard (Ok q) c = (on-requested s sound q c).all
  on-heard (Err e) c = tt

  on-event : (e : Event) → ProperIf (on_event s e)
  on-event (packet frame) =
      on-heard (read_request s.settings.network s.own frame) (command-read s.settings.network s.own frame)
  on-event (finger scan quality) = (on-finger s s.waiting scan quality).all
  on-event second = (on-second s s.waiting).all

  on_call : (c : Call) → ProperIf (step_of s c)
  on_call c =
      by-test ProperIf (ltb (length c.out) 2048) _ _ (λ _. tt)
      (λ _. by-test ProperIf (ltb (length c.work) 384) _ _ (λ _. tt) (λ _. on-event c.event))

pub said-proper : SaysProper
said-proper s sound c x e = subst ProperIf e (on_call s sound c)

pub proper-reads : ProperReads
proper-reads own [] o f p = refl
proper-reads own (y ∷ ys) o f p =
    read-in (reply_form own y.to) y.outcome y.«data» (bytes_of own ys) (sent_of own ys) (reply-form-fits own y.to o) p.0.as_read
    f.0.param_fits f.0.size_fits p.0.data_belongs (proper-reads own ys o f.1 p.1)
