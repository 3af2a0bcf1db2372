-- A locked module awaits nothing.
use Rattle.std.proofs.Common.{◌≡◌, ℕ, ◌*◌, Bool, true, false, not, ◌&&◌, ◌||◌, eqb, ltb, leb, List, [], ◌∷◌, length}
use Rattle.std.proofs.Common.{is_some, Some, None, Ok, Err, Option, Result, sym, refl, ◌∙◌, subst}
use Rattle.codes.specs.Commands.{command_number}
use Rattle.codes.specs.Flags.{flag_number, flags}
use Rattle.codes.specs.Numbers.{case_of}
use Rattle.codes.specs.Parameters.{parameter_number, parameters}
use Rattle.codes.specs.declared.code.Code.TheVariants.{InvalidId, Unsupported}
use Rattle.packet.specs.Data.{known_among}
use Rattle.search.specs.Ids.{count_of, place_of}
use Rattle.std.specs.Str.{bytes_eq}
use Rattle.machine.specs.Administrators.{any_admin, is_admin, level_of, may_delete, may_enroll}
use Rattle.machine.specs.Enrollment.{enroll_fault, enroll_id, looks_up}
use Rattle.machine.specs.Ids.{is_id, range_of}
use Rattle.machine.specs.Searches.{agrees, any_agrees, found_by, found_in, found_one}
use Rattle.machine.specs.Settings.{setting_of, templates_in}
use Rattle.codes.specs.declared.command.Command.{Command}
use Rattle.codes.specs.declared.command.Command.TheVariants.{
  WriteParameter,
  ReadParameter,
  Enroll,
  EnrollTemplate,
  Verify,
  Identify,
  ReadTemplate,
  Delete,
  DeleteAll,
  ListTemplates,
  Cancel,
  WriteLevel,
  EnrollByAdministrator,
  DeleteByAdministrator,
  Unlock,
  Lock,
  ChangePassword,
}
use Rattle.codes.specs.declared.numbered.Coded.{Coded}
use Rattle.codes.specs.declared.numbered.Coded.TheVariants.{Known, Unknown}
use Rattle.codes.specs.declared.refusal.Refusal.{Refusal}
use Rattle.packet.specs.Requests.{RequestParts, read_request}
use Rattle.machine.specs.Answers.{Step, just}
use Rattle.machine.specs.Machine.{Call, Event, after, asked, heard, next_of, on_event, requested, step_of}
use Rattle.machine.specs.Machine.Event.{packet, finger, second}
use Rattle.machine.specs.Requests.{Wanted, enroll, enroll_now, known, level_in, levelled, password_at, started, sum_right, unlock, wait_for}
use Rattle.machine.specs.Requests.Wanted.{no_level, wanted}
use Rattle.machine.specs.State.{Phase, State, Waiting, fresh}
use Rattle.machine.specs.State.Phase.{
  grant_to_enroll,
  grant_to_delete,
  first_finger,
  second_finger,
  person_to_verify,
  person_to_identify,
  person_to_delete,
}
use Rattle.machine.specs.Waiting.{deleted, first, granted, identified, on_finger, on_second, pressed, second as second_scan, verified}
use Rattle.machine.specs.declared.enrollment.Enroller.{Enroller}
use Rattle.machine.specs.declared.enrollment.Enroller.TheVariants.{Host, Administrator}
use Rattle.machine.specs.declared.enrollment.Enrollment.{Enrollment}
use Rattle.machine.specs.declared.settings.EnrollMode.{EnrollMode}
use Rattle.machine.specs.declared.settings.EnrollMode.TheVariants.{Once, Twice, TwoTemplates}
use Rattle.promises.specs.Runs.{Reached}
use Rattle.promises.proofs.Ways.{by-test, by-given, by-unless, never, only-unlock, some-none}

abbrev pub Sound : State → Type 0
Sound s = s.locked ≡ true → s.waiting ≡ None

pub record SoundAfter (x : Step) : Type 0 where
  pub sound : Sound x.next

-- a module that is not locked
module _ (s : State) (u : s.locked ≡ true → ⊥) where
  calm : (x : Step) → x.next.locked ≡ s.locked → SoundAfter x
  calm x e = record { sound = λ h. absurd (u (sym e ∙ h)) }

  -- it awaits nothing, and a request comes
  module _ (idle : s.waiting ≡ None) (q : RequestParts) where
    on-enroll : (by : Enroller) (missing : Bool) (needed : ℕ) (f : Enrollment → Step) → ((e : Enrollment) → SoundAfter (f e))
        → SoundAfter (enroll s q by missing needed f)
    on-enroll by missing needed f p =
        by-given SoundAfter (case_of flag_number flags q.flag) _ _ (calm (just s q Unsupported) refl) (λ flag.
        by-given SoundAfter (enroll_id s flag q.param) _ _ (calm (just s q InvalidId) refl) (λ id.
        by-test SoundAfter missing _ _ (λ _. calm (just s q Unsupported) refl) (λ _.
        by-unless SoundAfter (enroll_fault s flag id needed) _ _ (λ k. calm (just s q k) refl)
        (p (record { id = id; flag = flag; by = by })))))

    on-levelled : (l : Wanted) → SoundAfter (levelled s q l)
    on-levelled no_level = calm _ refl
    on-levelled (wanted level) =
        by-test SoundAfter (is_some (level_of q.param s.admins)) _ _ (λ _. calm _ refl)
        (λ _. by-test SoundAfter (ltb (length s.admins) 16) _ _ (λ _. calm _ refl) (λ _. calm _ refl))

    on-now : (e : Enrollment) → SoundAfter (enroll_now s q e)
    on-now e = by-test SoundAfter (looks_up e.flag && any_agrees s q.«data») _ _ (λ _. calm _ refl) (λ _. calm _ refl)

    on-known : (c : Command) → SoundAfter (known s q c)
    on-known WriteParameter =
        by-given SoundAfter (case_of parameter_number parameters q.flag) _ _ (calm _ refl) (λ p.
        by-given SoundAfter (setting_of p q.size) _ _ (calm _ refl) (λ _. calm _ refl))
    on-known ReadParameter = by-given SoundAfter (case_of parameter_number parameters q.flag) _ _ (calm _ refl) (λ _. calm _ refl)
    on-known Enroll =
        on-enroll Host false (templates_in s.settings.enroll) (λ e. wait_for s q (first_finger e))
        (λ e. calm (wait_for s q (first_finger e)) refl)
    on-known EnrollTemplate =
        by-test SoundAfter (not (eqb q.size s.size)) _ _ (λ _. calm _ refl) (λ _. on-enroll Host false 1 (enroll_now s q) on-now)
    on-known Verify =
        by-test SoundAfter (not (is_id q.param)) _ _ (λ _. calm _ refl)
        (λ _. by-test SoundAfter (eqb (count_of q.param s.held) 0) _ _ (λ _. calm _ refl) (λ _. calm _ refl))
    on-known Identify = by-given SoundAfter (range_of q.param) _ _ (calm _ refl) (λ _. calm _ refl)
    on-known ReadTemplate =
        by-test SoundAfter (not (is_id q.param)) _ _ (λ _. calm _ refl)
        (λ _. by-given SoundAfter (place_of q.param q.size s.held) _ _ (calm _ refl) (λ _. calm _ refl))
    on-known Delete =
        by-test SoundAfter (not (is_id q.param)) _ _ (λ _. calm _ refl)
        (λ _. by-test SoundAfter (eqb (count_of q.param s.held) 0) _ _ (λ _. calm _ refl) (λ _. calm _ refl))
    on-known DeleteAll = calm _ refl
    on-known ListTemplates =
        by-test SoundAfter (not (eqb q.size 0) && leb (length s.held) (q.param * q.size)) _ _ (λ _. calm _ refl) (λ _. calm _ refl)
    on-known Cancel = calm _ refl
    on-known WriteLevel =
        by-given SoundAfter (level_in q.flag) _ _ (calm _ refl) (λ l.
        by-test SoundAfter (not (is_id q.param)) _ _ (λ _. calm _ refl) (λ _.
        by-test SoundAfter (eqb (count_of q.param s.held) 0) _ _ (λ _. calm _ refl) (λ _. on-levelled l)))
    on-known EnrollByAdministrator =
        on-enroll Administrator (not (any_admin may_enroll s.admins)) (templates_in s.settings.enroll)
        (λ e. wait_for s q (grant_to_enroll e))
        (λ e. calm (wait_for s q (grant_to_enroll e)) refl)
    on-known DeleteByAdministrator =
        by-given SoundAfter (range_of q.param) _ _ (calm _ refl) (λ _.
        by-test SoundAfter (not (any_admin may_delete s.admins)) _ _ (λ _. calm _ refl) (λ _. calm _ refl))
    on-known Unlock =
        by-test SoundAfter (not (eqb q.size 18)) _ _ (λ _. calm _ refl) (λ _.
        by-test SoundAfter (not (sum_right 0 q.«data»)) _ _ (λ _. calm _ refl) (λ _.
        by-test SoundAfter (bytes_eq (password_at 0 q.«data») s.password) _ _ (λ _. record { sound = λ h. never h }) (λ _. calm _ refl)))
    on-known Lock = record { sound = λ _. idle }
    on-known ChangePassword =
        by-test SoundAfter (not (eqb q.size 36)) _ _ (λ _. calm _ refl) (λ _.
        by-test SoundAfter (not (sum_right 0 q.«data» && sum_right 18 q.«data»)) _ _ (λ _. calm _ refl) (λ _.
        by-test SoundAfter (bytes_eq (password_at 0 q.«data») s.password) _ _ (λ _. calm _ refl) (λ _. calm _ refl)))

    on-started : (c : Coded Command) → SoundAfter (started s q c)
    on-started (Known c) = on-known c
    on-started (Unknown n) = calm _ refl

  on-asked : (w : Option Waiting) → s.waiting ≡ w → (q : RequestParts) → SoundAfter (asked s w q)
  on-asked None e q = on-started e q q.command
  on-asked (Some w) e q =
      by-test SoundAfter (known_among command_number (Cancel ∷ []) q.command) _ _ (λ _. calm _ refl) (λ _. calm _ refl)

  -- it awaits something, and a finger or a second comes
  module _ (w : Waiting) where
    on-granted : (phase : Phase) (x : Option (ℕ × ℕ)) → SoundAfter (granted s w phase x)
    on-granted phase None = calm _ refl
    on-granted phase (Some x) = calm _ refl

    on-first : (e : Enrollment) (m : EnrollMode) (scan : List ℕ) (quality : ℕ) → SoundAfter (first s w e m scan quality)
    on-first e Once scan quality = calm _ refl
    on-first e Twice scan quality = calm _ refl
    on-first e TwoTemplates scan quality = calm _ refl

    on-second-scan : (e : Enrollment) (m : EnrollMode) (one : List ℕ) (q1 : ℕ) (two : List ℕ) (q2 : ℕ)
        → SoundAfter (second_scan s w e m one q1 two q2)
    on-second-scan e Once one q1 two q2 = calm _ refl
    on-second-scan e Twice one q1 two q2 = calm _ refl
    on-second-scan e TwoTemplates one q1 two q2 = calm _ refl

    on-verified : (x : Option (ℕ × ℕ)) → SoundAfter (verified s w x)
    on-verified None = calm _ refl
    on-verified (Some x) = calm _ refl

    on-identified : (x : Option (ℕ × ℕ)) → SoundAfter (identified s w x)
    on-identified None = calm _ refl
    on-identified (Some x) = calm _ refl

    on-deleted : (x : Option (ℕ × ℕ)) → SoundAfter (deleted s w x)
    on-deleted None = calm _ refl
    on-deleted (Some x) = by-test SoundAfter (is_some (level_of x.0 s.admins)) _ _ (λ _. calm _ refl) (λ _. calm _ refl)

    on-pressed : (p : Phase) (scan : List ℕ) (quality : ℕ) → SoundAfter (pressed s w p scan quality)
    on-pressed (grant_to_enroll e) scan quality = on-granted _ (found_by s (is_admin may_enroll s.admins) scan)
    on-pressed (grant_to_delete range) scan quality = on-granted _ (found_by s (is_admin may_delete s.admins) scan)
    on-pressed (first_finger e) scan quality =
        by-test SoundAfter (looks_up e.flag && any_agrees s scan) _ _ (λ _. calm _ refl) (λ _. on-first e s.settings.enroll scan quality)
    on-pressed (second_finger e one q1) scan quality =
        by-test SoundAfter (agrees s scan one) _ _ (λ _. on-second-scan e s.settings.enroll one q1 scan quality) (λ _. calm _ refl)
    on-pressed (person_to_verify id) scan quality = on-verified (found_one s id scan)
    on-pressed (person_to_identify range) scan quality = on-identified (found_in s range scan)
    on-pressed (person_to_delete range) scan quality = on-deleted (found_in s range scan)

-- any module that awaits nothing where it is locked
module _ (s : State) (k : Sound s) where
  unlocked : (w : Waiting) → s.waiting ≡ Some w → s.locked ≡ true → ⊥
  unlocked w e h = some-none w (sym (k h) ∙ e)

  same : (x : Step) → x.next ≡ s → SoundAfter x
  same x e = record { sound = (let P : State → Type 0 = λ t. Sound t in subst P (sym e) k) }

  on-finger : (w : Option Waiting) → s.waiting ≡ w → (scan : List ℕ) (quality : ℕ) → SoundAfter (on_finger s w scan quality)
  on-finger None e scan quality = same _ refl
  on-finger (Some w) e scan quality =
      by-test SoundAfter (not (eqb (length scan) s.size) || ltb 100 quality) _ _ (λ _. calm s (unlocked w e) _ refl) (λ _.
      by-test SoundAfter (ltb quality 30) _ _ (λ _. calm s (unlocked w e) _ refl) (λ _. on-pressed s (unlocked w e) w w.phase scan quality))

  on-second : (w : Option Waiting) → s.waiting ≡ w → SoundAfter (on_second s w)
  on-second None e = same _ refl
  on-second (Some w) e =
      by-test SoundAfter (eqb w.left 1) _ _ (λ _. calm s (unlocked w e) _ refl) (λ _. calm s (unlocked w e) _ refl)

  module _ (q : RequestParts) where
    on-unlock : SoundAfter (unlock s q)
    on-unlock =
        by-test SoundAfter (not (eqb q.size 18)) _ _ (λ _. same _ refl) (λ _.
        by-test SoundAfter (not (sum_right 0 q.«data»)) _ _ (λ _. same _ refl) (λ _.
        by-test SoundAfter (bytes_eq (password_at 0 q.«data») s.password) _ _ (λ _. record { sound = λ h. never h }) (λ _. same _ refl)))

    on-requested : SoundAfter (requested s q)
    on-requested =
        by-test SoundAfter s.locked _ _
        (λ l. by-test SoundAfter (known_among command_number (Unlock ∷ []) q.command) _ _
        (λ e. let P : Option Waiting → Type 0 = λ w. SoundAfter (asked s w q) in
        subst P (sym (k l)) (only-unlock SoundAfter s q q.command e on-unlock))
        (λ _. same _ refl))
        (λ l. on-asked s (λ h. never (sym l ∙ h)) s.waiting refl q)

  on-heard : (r : Result RequestParts Refusal) → Sound (next_of s (heard s r))
  on-heard (Ok q) = (on-requested q).sound
  on-heard (Err e) = k

  on-event : (e : Event) → Sound (next_of s (on_event s e))
  on-event (packet frame) = on-heard (read_request s.settings.network s.own frame)
  on-event (finger scan quality) = (on-finger s.waiting refl scan quality).sound
  on-event second = (on-second s.waiting refl).sound

  on_call : (c : Call) → Sound (next_of s (step_of s c))
  on_call c =
      by-test (λ r. Sound (next_of s r)) (ltb (length c.out) 2048) _ _ (λ _. k)
      (λ _. by-test (λ r. Sound (next_of s r)) (ltb (length c.work) 384) _ _ (λ _. k) (λ _. on-event c.event))

pub sound : (agree : List ℕ → List ℕ → ℕ → Bool) (size room own : ℕ) (h : List Call) → Sound (after (fresh agree size room own) h)
sound agree size room own [] = λ _. refl
sound agree size room own (c ∷ h) = on_call (after (fresh agree size room own) h) (sound agree size room own h) c

pub reached-sound : (s : State) → Reached s → Sound s
reached-sound s r =
    let P : State → Type 0 = λ t. Sound t in subst P (sym r.led) (sound r.agree r.size r.room r.own r.calls)
