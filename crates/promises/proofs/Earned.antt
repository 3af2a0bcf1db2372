-- A grant is earned: each CONTINUE came of a finger whose scan agreed with a template held under the ID that it names.
use Rattle.std.proofs.Common.{◌≡◌, ℕ, zero, suc, ◌*◌, ◌<◌, max, Bool, true, false, not, ◌&&◌, ◌||◌, eqb, ltb, leb, List}
use Rattle.std.proofs.Common.{[], ◌∷◌, map, length, is_some, Some, None, Ok, Err, Option, Result, sym, refl, ap, ◌∙◌}
use Rattle.std.proofs.Common.{subst, inl, inr, arith}
use Rattle.codes.specs.Commands.{command_number}
use Rattle.codes.specs.Flags.{flag_number, flags}
use Rattle.codes.specs.Numbers.{case_of}
use Rattle.codes.specs.Parameters.{parameter_number, parameters}
use Rattle.codes.specs.declared.code.Code.{Code}
use Rattle.codes.specs.declared.code.Code.TheVariants.{ExistFinger, InvalidId, NotFound, NotMatch, Success, TryAgain, Unsupported}
use Rattle.memory.specs.Held.{Held, held_at}
use Rattle.search.specs.Laws.{FindsOldest, IsOldest}
use Rattle.search.specs.Oldest.{passes}
use Rattle.search.proofs.Laws.{finds-oldest}
use Rattle.packet.specs.Data.{known_among}
use Rattle.search.specs.Ids.{count_of, place_of}
use Rattle.std.specs.Str.{bytes_eq}
use Rattle.machine.specs.Administrators.{any_admin, is_admin, level_of, may_delete, may_enroll, struck}
use Rattle.machine.specs.Enrollment.{enroll_id, enrolled, looks_up}
use Rattle.machine.specs.Ids.{is_id, range_of}
use Rattle.machine.specs.Searches.{agrees, any_agrees, found_by, found_in, found_one, without}
use Rattle.machine.specs.Settings.{setting_of, templates_in}
use Rattle.codes.specs.declared.command.Command.{Command}
use Rattle.codes.specs.declared.command.Command.TheVariants.{
  WriteParameter,
  ReadParameter,
  Enroll,
  EnrollTemplate,
  Verify,
  Identify,
  ReadTemplate,
  Delete,
  DeleteAll,
  ListTemplates,
  Cancel,
  WriteLevel,
  EnrollByAdministrator,
  DeleteByAdministrator,
  Unlock,
  Lock,
  ChangePassword,
}
use Rattle.codes.specs.declared.numbered.Coded.{Coded}
use Rattle.codes.specs.declared.numbered.Coded.TheVariants.{Known, Unknown}
use Rattle.codes.specs.declared.refusal.Refusal.{Refusal}
use Rattle.packet.specs.Requests.{RequestParts, read_request}
use Rattle.machine.specs.Answers.{Said, Step, just, outcome, tell}
use Rattle.machine.specs.Machine.{Call, Event, after, asked, heard, next_of, on_event, requested, step_of}
use Rattle.machine.specs.Machine.Event.{packet, finger, second}
use Rattle.machine.specs.Requests.{Wanted, enroll, enroll_now, known, level_in, levelled, password_at, started, sum_right, wait_for}
use Rattle.machine.specs.Requests.Wanted.{no_level, wanted}
use Rattle.machine.specs.State.{Phase, State, Waiting, command_of, holding}
use Rattle.machine.specs.State.Phase.{
  grant_to_enroll,
  grant_to_delete,
  first_finger,
  second_finger,
  person_to_verify,
  person_to_identify,
  person_to_delete,
}
use Rattle.machine.specs.Waiting.{better, deleted, ended, first, goes_on, granted, identified, on_finger, on_second}
use Rattle.machine.specs.Waiting.{pressed, scanned, second as second_scan, verified}
use Rattle.machine.specs.declared.enrollment.Enroller.{Enroller}
use Rattle.machine.specs.declared.enrollment.Enroller.TheVariants.{Host, Administrator}
use Rattle.machine.specs.declared.enrollment.Enrollment.{Enrollment}
use Rattle.machine.specs.declared.settings.EnrollMode.{EnrollMode}
use Rattle.machine.specs.declared.settings.EnrollMode.TheVariants.{Once, Twice, TwoTemplates}
use Rattle.machine.specs.declared.settings.Switch.{Switch}
use Rattle.machine.specs.declared.settings.Switch.TheVariants.{Off, On}
use Rattle.promises.specs.Promises.{Agreed, AllEarned, EarnedBy, EarnedIn}
use Rattle.promises.specs.Record.{record_of}
use Rattle.promises.specs.Runs.{answered}
use Rattle.promises.proofs.Ways.{by-fault, by-given, by-test, never}

-- what a module never changes: its number and its capacity
abbrev fixed : State → ℕ × ℕ
fixed s = (s.own, s.room)

record EarnedStep (s : State) (e : Event) (x : Step) : Type 0 where
  all : AllEarned s e (map (λ y. y.outcome) x.said)
  stays : fixed x.next ≡ fixed s

-- a template at a place that agrees
agreed-at : (s : State) (x : List ℕ) (id : ℕ) (h : List Held) (place : ℕ) → place < length h → (held_at h place).id ≡ id
    → agrees s x (held_at h place).template ≡ true → Agreed s x id h
agreed-at s x id [] place l i a = absurd (omega arith)
agreed-at s x id (e ∷ h) zero l i a = inl (i, a)
agreed-at s x id (e ∷ h) (suc place) l i a = inr (agreed-at s x id h place (omega arith) i a)

both_right : (a b : Bool) → (a && b) ≡ true → b ≡ true
both_right true b e = e
both_right false b e = never e

found-agreed : (s : State) (f : ℕ → Bool) (x : List ℕ) (y : ℕ × ℕ) → found_by s f x ≡ Some y → Agreed s x y.0 s.held
found-agreed s f x y e =
    let P : Option (ℕ × ℕ) → Type 0 = λ o. FindsOldest (passes f (agrees s x)) s.held o in
    let r : IsOldest (passes f (agrees s x)) s.held y.0 y.1 = subst P e (finds-oldest (passes f (agrees s x)) s.held) in
    agreed-at s x y.0 s.held r.place r.inside r.id_there
    (both_right (f (held_at s.held r.place).id) (agrees s x (held_at s.held r.place).template) r.passing)

-- a packet gives no CONTINUE
module _ (s : State) (frame : List ℕ) (q : RequestParts) where
  abbrev P : Step → Type 0
  P x = EarnedStep s (packet frame) x

  one : (x : Step) → AllEarned s (packet frame) (map (λ y. y.outcome) x.said) → fixed x.next ≡ fixed s → P x
  one x a o = record { all = a; stays = o }

  on-enroll : (by : Enroller) (missing : Bool) (needed : ℕ) (f : Enrollment → Step) → ((e : Enrollment) → P (f e))
      → P (enroll s q by missing needed f)
  on-enroll by missing needed f p =
      by-given P (case_of flag_number flags q.flag) _ _ (one (just s q Unsupported) (tt, tt) refl) (λ flag.
      by-given P (enroll_id s flag q.param) _ _ (one (just s q InvalidId) (tt, tt) refl) (λ id.
      by-test P missing _ _ (λ _. one (just s q Unsupported) (tt, tt) refl) (λ _.
      by-fault P s flag id needed (just s q) _ (one _ (tt, tt) refl) (one _ (tt, tt) refl) (one _ (tt, tt) refl)
      (λ _. p (record { id = id; flag = flag; by = by })))))

  on-levelled : (l : Wanted) → P (levelled s q l)
  on-levelled no_level = one _ (tt, tt) refl
  on-levelled (wanted level) =
      by-test P (is_some (level_of q.param s.admins)) _ _ (λ _. one _ (tt, tt) refl)
      (λ _. by-test P (ltb (length s.admins) 16) _ _ (λ _. one _ (tt, tt) refl) (λ _. one _ (tt, tt) refl))

  on-now : (e : Enrollment) → P (enroll_now s q e)
  on-now e = by-test P (looks_up e.flag && any_agrees s q.«data») _ _ (λ _. one _ (tt, tt) refl) (λ _. one _ (tt, tt) refl)

  on-known : (c : Command) → P (known s q c)
  on-known WriteParameter =
      by-given P (case_of parameter_number parameters q.flag) _ _ (one _ (tt, tt) refl) (λ p.
      by-given P (setting_of p q.size) _ _ (one _ (tt, tt) refl) (λ _. one _ (tt, tt) refl))
  on-known ReadParameter = by-given P (case_of parameter_number parameters q.flag) _ _ (one _ (tt, tt) refl) (λ _. one _ (tt, tt) refl)
  on-known Enroll =
      on-enroll Host false (templates_in s.settings.enroll) (λ e. wait_for s q (first_finger e))
      (λ e. one (wait_for s q (first_finger e)) tt refl)
  on-known EnrollTemplate =
      by-test P (not (eqb q.size s.size)) _ _ (λ _. one _ (tt, tt) refl) (λ _. on-enroll Host false 1 (enroll_now s q) on-now)
  on-known Verify =
      by-test P (not (is_id q.param)) _ _ (λ _. one _ (tt, tt) refl)
      (λ _. by-test P (eqb (count_of q.param s.held) 0) _ _ (λ _. one _ (tt, tt) refl) (λ _. one _ tt refl))
  on-known Identify = by-given P (range_of q.param) _ _ (one _ (tt, tt) refl) (λ _. one _ tt refl)
  on-known ReadTemplate =
      by-test P (not (is_id q.param)) _ _ (λ _. one _ (tt, tt) refl)
      (λ _. by-given P (place_of q.param q.size s.held) _ _ (one _ (tt, tt) refl) (λ _. one _ (tt, tt) refl))
  on-known Delete =
      by-test P (not (is_id q.param)) _ _ (λ _. one _ (tt, tt) refl)
      (λ _. by-test P (eqb (count_of q.param s.held) 0) _ _ (λ _. one _ (tt, tt) refl) (λ _. one _ (tt, tt) refl))
  on-known DeleteAll = one _ (tt, tt) refl
  on-known ListTemplates =
      by-test P (not (eqb q.size 0) && leb (length s.held) (q.param * q.size)) _ _ (λ _. one _ (tt, tt) refl) (λ _. one _ (tt, tt) refl)
  on-known Cancel = one _ (tt, tt) refl
  on-known WriteLevel =
      by-given P (level_in q.flag) _ _ (one _ (tt, tt) refl) (λ l.
      by-test P (not (is_id q.param)) _ _ (λ _. one _ (tt, tt) refl) (λ _.
      by-test P (eqb (count_of q.param s.held) 0) _ _ (λ _. one _ (tt, tt) refl) (λ _. on-levelled l)))
  on-known EnrollByAdministrator =
      on-enroll Administrator (not (any_admin may_enroll s.admins)) (templates_in s.settings.enroll) (λ e. wait_for s q (grant_to_enroll e))
      (λ e. one (wait_for s q (grant_to_enroll e)) tt refl)
  on-known DeleteByAdministrator =
      by-given P (range_of q.param) _ _ (one _ (tt, tt) refl) (λ _.
      by-test P (not (any_admin may_delete s.admins)) _ _ (λ _. one _ (tt, tt) refl) (λ _. one _ tt refl))
  on-known Unlock =
      by-test P (not (eqb q.size 18)) _ _ (λ _. one _ (tt, tt) refl) (λ _.
      by-test P (not (sum_right 0 q.«data»)) _ _ (λ _. one _ (tt, tt) refl) (λ _.
      by-test P (bytes_eq (password_at 0 q.«data») s.password) _ _ (λ _. one _ (tt, tt) refl) (λ _. one _ (tt, tt) refl)))
  on-known Lock = one _ (tt, tt) refl
  on-known ChangePassword =
      by-test P (not (eqb q.size 36)) _ _ (λ _. one _ (tt, tt) refl) (λ _.
      by-test P (not (sum_right 0 q.«data» && sum_right 18 q.«data»)) _ _ (λ _. one _ (tt, tt) refl) (λ _.
      by-test P (bytes_eq (password_at 0 q.«data») s.password) _ _ (λ _. one _ (tt, tt) refl) (λ _. one _ (tt, tt) refl)))

  on-started : (c : Coded Command) → P (started s q c)
  on-started (Known c) = on-known c
  on-started (Unknown n) = one _ (tt, tt) refl

  on-asked : (w : Option Waiting) → P (asked s w q)
  on-asked None = on-started q.command
  on-asked (Some w) =
      by-test P (known_among command_number (Cancel ∷ []) q.command) _ _ (λ _. one _ (tt, (tt, tt)) refl) (λ _. one _ (tt, tt) refl)

  on-requested : P (requested s q)
  on-requested =
      by-test P s.locked _ _
      (λ _. by-test P (known_among command_number (Unlock ∷ []) q.command) _ _ (λ _. on-asked s.waiting) (λ _. one _ (tt, tt) refl))
      (λ _. on-asked s.waiting)

-- a finger: only an administrator's gives a CONTINUE
module _ (s : State) (w : Waiting) (x : List ℕ) (quality : ℕ) where
  abbrev F : Step → Type 0
  F y = EarnedStep s (finger x quality) y

  -- a good scan is told first or not
  scans : (b : Switch) (os : List Said) → AllEarned s (finger x quality) (map (λ y. y.outcome) os)
      → AllEarned s (finger x quality) (map (λ y. y.outcome) (scanned b w os))
  scans Off os a = a
  scans On os a = (tt, a)

  ends : (t : State) (param size : ℕ) (k : Code) → AllEarned s (finger x quality) (outcome (Known (command_of w.phase)) param size k ∷ [])
      → fixed t ≡ fixed s → F (ended t w param size k)
  ends t param size k a o = record { all = scans t.settings.scans (tell w param size k ∷ []) a; stays = o }

  goes : (phase : Phase) (os : List Said) → AllEarned s (finger x quality) (map (λ y. y.outcome) os) → F (goes_on s w phase os)
  goes phase os a = record { all = scans s.settings.scans os a; stays = refl }

  on-granted : (f : ℕ → Bool) (phase : Phase) (o : Option (ℕ × ℕ)) → found_by s f x ≡ o → F (granted s w phase o)
  on-granted f phase None e = ends s 0 0 NotMatch (tt, tt) refl
  on-granted f phase (Some y) e = goes phase _ (found-agreed s f x y e, tt)

  on-first : (e : Enrollment) (m : EnrollMode) → F (first s w e m x quality)
  on-first e Once = ends (enrolled s e (x ∷ [])) e.id quality Success (tt, tt) refl
  on-first e Twice = goes _ [] tt
  on-first e TwoTemplates = goes _ [] tt

  on-second-scan : (e : Enrollment) (m : EnrollMode) (one : List ℕ) (q1 : ℕ) → F (second_scan s w e m one q1 x quality)
  on-second-scan e Once one q1 = ends (enrolled s e (better one q1 x quality ∷ [])) e.id (max q1 quality) Success (tt, tt) refl
  on-second-scan e Twice one q1 = ends (enrolled s e (better one q1 x quality ∷ [])) e.id (max q1 quality) Success (tt, tt) refl
  on-second-scan e TwoTemplates one q1 = ends (enrolled s e (one ∷ x ∷ [])) e.id (max q1 quality) Success (tt, tt) refl

  on-verified : (o : Option (ℕ × ℕ)) → F (verified s w o)
  on-verified None = ends s 0 0 NotMatch (tt, tt) refl
  on-verified (Some y) = ends s _ _ Success (tt, tt) refl

  on-identified : (o : Option (ℕ × ℕ)) → F (identified s w o)
  on-identified None = ends s 0 0 NotFound (tt, tt) refl
  on-identified (Some y) = ends s _ _ Success (tt, tt) refl

  on-deleted : (o : Option (ℕ × ℕ)) → F (deleted s w o)
  on-deleted None = ends s 0 0 NotFound (tt, tt) refl
  on-deleted (Some y) =
      by-test F (is_some (level_of y.0 s.admins)) _ _ (λ _. ends s 0 0 Unsupported (tt, tt) refl)
      (λ _. ends (holding s (without y.0 s.held) (struck y.0 s.admins)) y.0 0 Success (tt, tt) refl)

  on-pressed : (p : Phase) → F (pressed s w p x quality)
  on-pressed (grant_to_enroll e) = on-granted (is_admin may_enroll s.admins) _ _ refl
  on-pressed (grant_to_delete range) = on-granted (is_admin may_delete s.admins) _ _ refl
  on-pressed (first_finger e) =
      by-test F (looks_up e.flag && any_agrees s x) _ _ (λ _. ends s 0 0 ExistFinger (tt, tt) refl) (λ _. on-first e s.settings.enroll)
  on-pressed (second_finger e one q1) =
      by-test F (agrees s x one) _ _ (λ _. on-second-scan e s.settings.enroll one q1) (λ _. ends s 0 0 TryAgain (tt, tt) refl)
  on-pressed (person_to_verify id) = on-verified (found_one s id x)
  on-pressed (person_to_identify range) = on-identified (found_in s range x)
  on-pressed (person_to_delete range) = on-deleted (found_in s range x)

on-finger : (s : State) (w : Option Waiting) (x : List ℕ) (quality : ℕ) → EarnedStep s (finger x quality) (on_finger s w x quality)
on-finger s None x quality = record { all = tt; stays = refl }
on-finger s (Some w) x quality =
    by-test (EarnedStep s (finger x quality)) (not (eqb (length x) s.size) || ltb 100 quality) _ _
    (λ _. record { all = (tt, tt); stays = refl }) (λ _.
    by-test (EarnedStep s (finger x quality)) (ltb quality 30) _ _ (λ _. record { all = (tt, tt); stays = refl })
    (λ _. on-pressed s w x quality w.phase))

on-second : (s : State) (w : Option Waiting) → EarnedStep s second (on_second s w)
on-second s None = record { all = tt; stays = refl }
on-second s (Some w) = by-test (EarnedStep s second) (eqb w.left 1) _ _ (λ _. record { all = (tt, tt); stays = refl })
    (λ _. record { all = tt; stays = refl })

on-heard : (s : State) (frame : List ℕ) (r : Result RequestParts Refusal) → EarnedBy s (packet frame) (answered (heard s r))
on-heard s frame (Ok q) = (on-requested s frame q).all
on-heard s frame (Err e) = tt

on-event : (s : State) (e : Event) → EarnedBy s e (answered (on_event s e))
on-event s (packet frame) = on-heard s frame (read_request s.settings.network s.own frame)
on-event s (finger x quality) = (on-finger s s.waiting x quality).all
on-event s second = (on-second s s.waiting).all

pub earned-call : (s : State) (c : Call) → EarnedBy s c.event (answered (step_of s c))
earned-call s c =
    by-test (λ r. EarnedBy s c.event (answered r)) (ltb (length c.out) 2048) _ _ (λ _. tt) (λ _.
    by-test (λ r. EarnedBy s c.event (answered r)) (ltb (length c.work) 384) _ _ (λ _. tt) (λ _. on-event s c.event))

-- the calls of a record are those that came
calls-of : (s : State) (h : List Call) → map (λ y. y.call) (record_of s h) ≡ h
calls-of s [] = refl
calls-of s (c ∷ h) = ap (λ l. c ∷ l) (calls-of s h)

pub earned-in : (s : State) (h : List Call) → EarnedIn s (record_of s h)
earned-in s [] = tt
earned-in s (c ∷ h) =
    let P : List Call → Type 0 = λ l. EarnedBy (after s l) c.event (answered (step_of (after s h) c)) in
    (subst P (sym (calls-of s h)) (earned-call (after s h) c), earned-in s h)

stays-heard : (s : State) (frame : List ℕ) (r : Result RequestParts Refusal) → fixed (next_of s (heard s r)) ≡ fixed s
stays-heard s frame (Ok q) = (on-requested s frame q).stays
stays-heard s frame (Err e) = refl

stays-event : (s : State) (e : Event) → fixed (next_of s (on_event s e)) ≡ fixed s
stays-event s (packet frame) = stays-heard s frame (read_request s.settings.network s.own frame)
stays-event s (finger x quality) = (on-finger s s.waiting x quality).stays
stays-event s second = (on-second s s.waiting).stays

stays-call : (s : State) (c : Call) → fixed (next_of s (step_of s c)) ≡ fixed s
stays-call s c =
    by-test (λ r. fixed (next_of s r) ≡ fixed s) (ltb (length c.out) 2048) _ _ (λ _. refl) (λ _.
    by-test (λ r. fixed (next_of s r) ≡ fixed s) (ltb (length c.work) 384) _ _ (λ _. refl) (λ _. stays-event s c.event))

fixed-stays : (s : State) (h : List Call) → fixed (after s h) ≡ fixed s
fixed-stays s [] = refl
fixed-stays s (c ∷ h) = stays-call (after s h) c ∙ fixed-stays s h

pub own-stays : (s : State) (h : List Call) → (after s h).own ≡ s.own
own-stays s h = ap (λ (x : ℕ × ℕ). x.0) (fixed-stays s h)

pub room-stays : (s : State) (h : List Call) → (after s h).room ≡ s.room
room-stays s h = ap (λ (x : ℕ × ℕ). x.1) (fixed-stays s h)
