-- Which outcomes each call adds to the ledger of grants.
use Rattle.std.proofs.Common.{◌≡◌, ℕ, suc, ◌-◌, ◌*◌, max, Bool, true, false, cond, not, ◌&&◌, ◌||◌, eqb, ltb, leb, List}
use Rattle.std.proofs.Common.{[], ◌∷◌, length, is_some, Some, None, Ok, Err, Option, Result, sym, refl, ap, ◌∙◌, subst}
use Rattle.codes.specs.Commands.{command_number}
use Rattle.codes.specs.Flags.{flag_number, flags}
use Rattle.codes.specs.Numbers.{case_of}
use Rattle.codes.specs.Parameters.{parameter_number, parameters}
use Rattle.codes.specs.declared.code.Code.{Code}
use Rattle.codes.specs.declared.code.Code.TheVariants.{
  Success,
  ScanSuccess,
  ScanFail,
  NotFound,
  NotMatch,
  TryAgain,
  TimeOut,
  MemFull,
  ExistId,
  FingerLimit,
  Continue,
  Unsupported,
  InvalidId,
  Busy,
  Canceled,
  ExistFinger,
  Locked,
}
use Rattle.codes.specs.declared.command.Command.{Command}
use Rattle.codes.specs.declared.command.Command.TheVariants.{
  WriteParameter,
  ReadParameter,
  Enroll,
  EnrollTemplate,
  Verify,
  Identify,
  ReadTemplate,
  Delete,
  DeleteAll,
  ListTemplates,
  Cancel,
  WriteLevel,
  EnrollByAdministrator,
  DeleteByAdministrator,
  Unlock,
  Lock,
  ChangePassword,
}
use Rattle.codes.specs.declared.numbered.Coded.{Coded}
use Rattle.codes.specs.declared.numbered.Coded.TheVariants.{Known, Unknown}
use Rattle.codes.specs.declared.refusal.Refusal.{Refusal}
use Rattle.codes.specs.declared.refusal.Refusal.TheVariants.{AnswerBuffer, WorkBuffer}
use Rattle.memory.specs.Held.{held_at}
use Rattle.packet.specs.Data.{known_among}
use Rattle.packet.specs.Requests.{RequestParts, read_request}
use Rattle.search.specs.Ids.{count_of, place_of}
use Rattle.std.specs.Str.{bytes_eq}
use Rattle.machine.specs.Administrators.{any_admin, is_admin, level_of, may_delete, may_enroll, struck}
use Rattle.machine.specs.Answers.{Step, answer_data, go, just, outcome, tell}
use Rattle.machine.specs.Enrollment.{enroll_id, enrolled, looks_up}
use Rattle.machine.specs.Ids.{is_id, range_of}
use Rattle.machine.specs.Machine.{Call, Event, asked, heard, next_of, on_event, requested, step_of}
use Rattle.machine.specs.Machine.Event.{packet, finger, second}
use Rattle.machine.specs.Requests.{Wanted, enroll, enroll_now, known, level_in, levelled, parameter_value, password_at}
use Rattle.machine.specs.Requests.{started, sum_right, unlock, wait_for}
use Rattle.machine.specs.Requests.Wanted.{no_level, wanted}
use Rattle.machine.specs.Searches.{agrees, any_agrees, found_by, found_in, found_one, without}
use Rattle.machine.specs.Settings.{setting_of, templates_in}
use Rattle.machine.specs.State.{Phase, State, Waiting, awaiting, command_of, enroll_command, holding}
use Rattle.machine.specs.State.Phase.{
  grant_to_enroll,
  grant_to_delete,
  first_finger,
  second_finger,
  person_to_verify,
  person_to_identify,
  person_to_delete,
}
use Rattle.machine.specs.Waiting.{
  better,
  deleted,
  done,
  ended,
  first,
  granted,
  identified,
  on_finger,
  on_second,
  pressed,
  scanned,
  second as second_scan,
  verified,
}
use Rattle.machine.specs.declared.enrollment.Enroller.{Enroller}
use Rattle.machine.specs.declared.enrollment.Enroller.TheVariants.{Host, Administrator}
use Rattle.machine.specs.declared.enrollment.Enrollment.{Enrollment}
use Rattle.machine.specs.declared.settings.EnrollMode.{EnrollMode}
use Rattle.machine.specs.declared.settings.EnrollMode.TheVariants.{Once, Twice, TwoTemplates}
use Rattle.machine.specs.declared.settings.Switch.{Switch}
use Rattle.machine.specs.declared.settings.Switch.TheVariants.{Off, On}
use Rattle.promises.specs.Grants.{by_grant, grant_in, holds_grant, needs_grant, one_if, use_in}
use Rattle.promises.specs.Record.{Mark, Owner, Told, belongs, is_code, mark, packet_at, tells, waits}
use Rattle.promises.specs.Record.Mark.{failure}
use Rattle.promises.specs.Record.Owner.{owner}
use Rattle.promises.specs.Runs.{answered}
use Rattle.promises.proofs.Counts.{OnUse, When}
use Rattle.promises.proofs.Ledger.{Follows, Ledger, answers, asks, calm, continues, ends, fails, note, says, scans, stays, tick}
use Rattle.promises.proofs.Pending.{Detail}
use Rattle.promises.proofs.Reading.{packet-there}
use Rattle.promises.proofs.Sound.{Sound}
use Rattle.promises.proofs.Ways.{by-fault, by-given, by-test, given-some, is-command, only-unlock}

-- the ledger after a call that was not refused
pub record After (own n : ℕ) (w : Owner) (ts : List Told) (e : Event) (x : Step) : Type 0 where
  pub ledger : Ledger (suc n) (waits own e (answered (Ok x)) n w) (tells own e n w (answered (Ok x)) ts) x.next.waiting

-- a command that is one that needs no grant
needs-none : (d : Command) (c : Coded Command) → needs_grant (Known d) ≡ false
    → known_among command_number (d ∷ []) c ≡ true → needs_grant c ≡ false
needs-none d c g e = ap needs_grant (is-command d c e) ∙ g

needs-by : (by : Enroller) → needs_grant (Known (enroll_command by)) ≡ by_grant by
needs-by Host = refl
needs-by Administrator = refl

-- a request waits, and a finger comes
module _ (own n : ℕ) (w : Owner) (ts : List Told) (s : State) (x : Waiting) (l : Ledger n w ts (Some x)) (scan : List ℕ) (quality : ℕ) where
  abbrev Pressed : Step → Type 0
  Pressed st = After own n w ts (finger scan quality) st

  seen : Ledger n w (note w (says x 0 0 ScanSuccess) ∷ ts) (Some x)
  seen = scans w x x 0 0 l (stays x.phase)

  on-ended-at : (v : Switch) (t : State) (param size : ℕ) (code : Code)
      → ((us : List Told) → Ledger n w us (Some x) → Ledger n w (note w (says x param size code) ∷ us) None)
      → Pressed (go (awaiting t None) (scanned v x (tell x param size code ∷ [])))
  on-ended-at Off t param size code f = record { ledger = tick (f ts l) }
  on-ended-at On t param size code f = record { ledger = tick (f (note w (says x 0 0 ScanSuccess) ∷ ts) seen) }

  on-failed : (code : Code) → mark code ≡ failure → Pressed (ended s x 0 0 code)
  on-failed code m = on-ended-at s.settings.scans s 0 0 code (λ us k. fails w x 0 0 code k m)

  on-ended : (t : State) (param size : ℕ) (b : Bool) → holds_grant x.phase ≡ b → needs_grant (Known (command_of x.phase)) ≡ b
      → Pressed (ended t x param size Success)
  on-ended t param size b a g = on-ended-at t.settings.scans t param size Success (λ us k. ends w x param size k b a g)

  on-moved : (v : Switch) (t : State) (y : Waiting) → Follows x.phase y.phase → Pressed (go (awaiting t (Some y)) (scanned v x []))
  on-moved Off t y f = record { ledger = tick (calm w x y l f) }
  on-moved On t y f = record { ledger = tick (scans w x y 0 0 l f) }

  module _ (phase : Phase) (c : command_of phase ≡ command_of x.phase) (d : (q : RequestParts) → Detail q x.phase → Detail q phase)
      (a : holds_grant x.phase ≡ false) (b : (q : RequestParts) → Detail q x.phase → holds_grant phase ≡ true) where
    on-continued : (v : Switch) (t : State) (left param : ℕ)
        → Pressed (go (awaiting t (Some (record { form = x.form; phase = phase; left = left })))
        (scanned v x (tell x param 0 Continue ∷ [])))
    on-continued Off t left param =
        record { ledger = tick (continues w x (record { form = x.form; phase = phase; left = left }) param 0 l c d a b) }
    on-continued On t left param =
        record { ledger = tick (continues w x (record { form = x.form; phase = phase; left = left }) param 0 seen c d a b) }

    on-granted : (o : Option (ℕ × ℕ)) → Pressed (granted s x phase o)
    on-granted None = on-failed NotMatch refl
    on-granted (Some z) = on-continued s.settings.scans s s.settings.timeout z.0

  -- a finger of an enrolment
  module _ (e : Enrollment) (h : holds_grant x.phase ≡ by_grant e.by) (c : command_of x.phase ≡ enroll_command e.by) where
    on-done : (templates : List (List ℕ)) (best : ℕ) → Pressed (done s x e templates best)
    on-done templates best =
        on-ended (enrolled s e templates) e.id best (by_grant e.by) h (ap (λ y. needs_grant (Known y)) c ∙ needs-by e.by)

    on-first : (m : EnrollMode) → ((q : RequestParts) → Detail q x.phase → Detail q (second_finger e scan quality))
        → Pressed (first s x e m scan quality)
    on-first Once d = on-done (scan ∷ []) quality
    on-first Twice d =
        on-moved s.settings.scans s (record { form = x.form; phase = second_finger e scan quality; left = s.settings.timeout })
        (record { command = sym c; detail = d; kept = sym h })
    on-first TwoTemplates d =
        on-moved s.settings.scans s (record { form = x.form; phase = second_finger e scan quality; left = s.settings.timeout })
        (record { command = sym c; detail = d; kept = sym h })

    on-second-scan : (m : EnrollMode) (one : List ℕ) (q1 : ℕ) (two : List ℕ) (q2 : ℕ) → Pressed (second_scan s x e m one q1 two q2)
    on-second-scan Once one q1 two q2 = on-done (better one q1 two q2 ∷ []) (max q1 q2)
    on-second-scan Twice one q1 two q2 = on-done (better one q1 two q2 ∷ []) (max q1 q2)
    on-second-scan TwoTemplates one q1 two q2 = on-done (one ∷ two ∷ []) (max q1 q2)

  on-verified : holds_grant x.phase ≡ false → needs_grant (Known (command_of x.phase)) ≡ false → (o : Option (ℕ × ℕ))
      → Pressed (verified s x o)
  on-verified a g None = on-failed NotMatch refl
  on-verified a g (Some z) = on-ended s z.0 z.1 false a g

  on-identified : holds_grant x.phase ≡ false → needs_grant (Known (command_of x.phase)) ≡ false → (o : Option (ℕ × ℕ))
      → Pressed (identified s x o)
  on-identified a g None = on-failed NotFound refl
  on-identified a g (Some z) = on-ended s z.0 z.1 false a g

  on-deleted : holds_grant x.phase ≡ true → needs_grant (Known (command_of x.phase)) ≡ true → (o : Option (ℕ × ℕ)) → Pressed (deleted s x o)
  on-deleted a g None = on-failed NotFound refl
  on-deleted a g (Some z) =
      by-test Pressed (is_some (level_of z.0 s.admins)) _ _ (λ _. on-failed Unsupported refl)
      (λ _. on-ended (holding s (without z.0 s.held) (struck z.0 s.admins)) z.0 0 true a g)

  moved : (q : RequestParts) (a b : Phase) → a ≡ b → Detail q a → Detail q b
  moved q a b e d = let P : Phase → Type 0 = λ p. Detail q p in subst P e d

  needs : (p : Phase) → x.phase ≡ p → needs_grant (Known (command_of x.phase)) ≡ needs_grant (Known (command_of p))
  needs p k = ap (λ y. needs_grant (Known (command_of y))) k

  on-pressed : (p : Phase) → x.phase ≡ p → Pressed (pressed s x p scan quality)
  on-pressed (grant_to_enroll e) k =
      on-granted (first_finger e) (sym (ap command_of k)) (λ q d. (moved q x.phase (grant_to_enroll e) k d).1) (ap holds_grant k)
      (λ q d. ap by_grant (moved q x.phase (grant_to_enroll e) k d).0) (found_by s (is_admin may_enroll s.admins) scan)
  on-pressed (grant_to_delete range) k =
      on-granted (person_to_delete range) (sym (ap command_of k)) (λ q d. tt) (ap holds_grant k) (λ q d. refl)
      (found_by s (is_admin may_delete s.admins) scan)
  on-pressed (first_finger e) k =
      by-test Pressed (looks_up e.flag && any_agrees s scan) _ _ (λ _. on-failed ExistFinger refl)
      (λ _. on-first e (ap holds_grant k) (ap command_of k) s.settings.enroll (λ q d. moved q x.phase (first_finger e) k d))
  on-pressed (second_finger e one q1) k =
      by-test Pressed (agrees s scan one) _ _
      (λ _. on-second-scan e (ap holds_grant k) (ap command_of k) s.settings.enroll one q1 scan quality) (λ _. on-failed TryAgain refl)
  on-pressed (person_to_verify id) k = on-verified (ap holds_grant k) (needs (person_to_verify id) k) (found_one s id scan)
  on-pressed (person_to_identify range) k = on-identified (ap holds_grant k) (needs (person_to_identify range) k) (found_in s range scan)
  on-pressed (person_to_delete range) k = on-deleted (ap holds_grant k) (needs (person_to_delete range) k) (found_in s range scan)

-- a packet was accepted: the request `q`
module _ (own n : ℕ) (w : Owner) (ts : List Told) (frame : List ℕ) (q : RequestParts) (here : packet_at own n frame ≡ owner n q) where
  abbrev Heard : Step → Type 0
  Heard st = After own n w ts (packet frame) st

  -- its own outcome is a failure, or a SUCCESS that needs no grant
  fails-at-once : (x : Option Waiting) → Ledger n w ts x → (param size : ℕ) (code : Code)
      → is_code Canceled code ≡ false → mark code ≡ failure
      → Ledger (suc n) w (note (belongs own (packet frame) code n w) (outcome q.command param size code) ∷ ts) x
  fails-at-once x l param size code c f =
      let P : Owner → Type 0 = λ v. Ledger (suc n) w (note v (outcome q.command param size code) ∷ ts) x in
      let mine : belongs own (packet frame) code n w ≡ owner n q = ap (λ b. cond b w (packet_at own n frame)) c ∙ here in
      let free : (R : Type 0) → OnUse (mark code) q.command R =
      λ R. (let Q : Mark → Type 0 = λ m. OnUse m q.command R in subst Q (sym f) tt) in
      subst P (sym mine)
      (answers l q (outcome q.command param size code) (λ b. ap (λ m. grant_in m b) f) (λ b. ap (λ m. use_in m q.command b) f) free refl)

  succeeds-at-once : (us : List Told) (x : Option Waiting) → Ledger n w us x → (param size : ℕ) → needs_grant q.command ≡ false
      → Ledger (suc n) w (note (packet_at own n frame) (outcome q.command param size Success) ∷ us) x
  succeeds-at-once us x l param size g =
      let P : Owner → Type 0 = λ v. Ledger (suc n) w (note v (outcome q.command param size Success) ∷ us) x in
      let free : (R : Type 0) → When (needs_grant q.command) R = λ R. (let Q : Bool → Type 0 = λ v. When v R in subst Q (sym g) tt) in
      subst P (sym here)
      (answers l q (outcome q.command param size Success) (λ b. refl) (λ b. ap (λ v. cond v (one_if b) 0) g) free refl)

  module _ (s : State) (l : Ledger n w ts s.waiting) where
    bad : (code : Code) → is_code Canceled code ≡ false → mark code ≡ failure → Heard (just s q code)
    bad code c f = record { ledger = fails-at-once s.waiting l 0 0 code c f }

    good : (t : State) → t.waiting ≡ s.waiting → needs_grant q.command ≡ false → (param size : ℕ) (bs : List ℕ)
        → Heard (go t (answer_data q param size Success bs))
    good t e g param size bs =
        let P : Option Waiting → Type 0 =
        λ x. Ledger (suc n) w (note (packet_at own n frame) (outcome q.command param size Success) ∷ ts) x in
        record { ledger = subst P (sym e) (succeeds-at-once ts s.waiting l param size g) }

    on-unlock : needs_grant q.command ≡ false → Heard (unlock s q)
    on-unlock g =
        by-test Heard (not (eqb q.size 18)) _ _ (λ _. bad Unsupported refl refl) (λ _.
        by-test Heard (not (sum_right 0 q.«data»)) _ _ (λ _. bad TryAgain refl refl) (λ _.
        by-test Heard (bytes_eq (password_at 0 q.«data») s.password) _ _ (λ _. good _ refl g 0 0 []) (λ _. bad NotMatch refl refl)))

    -- nothing waits
    module _ (i : Ledger n w ts None) where
      begins : (phase : Phase) → q.command ≡ Known (command_of phase) → Detail q phase → holds_grant phase ≡ false
          → Heard (wait_for s q phase)
      begins phase c d a =
          let x : Waiting = record { form = q.form; phase = phase; left = s.settings.timeout } in
          let P : Owner → Type 0 = λ v. Ledger (suc n) v ts (Some x) in
          record { ledger = subst P (sym here) (asks i q x c d a) }

      on-enroll : (by : Enroller) (missing : Bool) (needed : ℕ) (f : Enrollment → Step)
          → ((e : Enrollment) → e.by ≡ by → case_of flag_number flags q.flag ≡ Some e.flag → Heard (f e))
          → Heard (enroll s q by missing needed f)
      on-enroll by missing needed f p =
          given-some Heard (case_of flag_number flags q.flag) _ _ (bad Unsupported refl refl) (λ flag h.
          by-given Heard (enroll_id s flag q.param) _ _ (bad InvalidId refl refl) (λ id.
          by-test Heard missing _ _ (λ _. bad Unsupported refl refl) (λ _.
          by-fault Heard s flag id needed (just s q) _ (bad ExistId refl refl) (bad FingerLimit refl refl) (bad MemFull refl refl)
          (λ _. p (record { id = id; flag = flag; by = by }) refl h))))

      on-levelled : needs_grant q.command ≡ false → (v : Wanted) → Heard (levelled s q v)
      on-levelled g no_level = good _ refl g 0 0 []
      on-levelled g (wanted level) =
          by-test Heard (is_some (level_of q.param s.admins)) _ _ (λ _. good _ refl g 0 0 [])
          (λ _. by-test Heard (ltb (length s.admins) 16) _ _ (λ _. good _ refl g 0 0 []) (λ _. bad MemFull refl refl))

      on-now : needs_grant q.command ≡ false → (e : Enrollment) → Heard (enroll_now s q e)
      on-now g e =
          by-test Heard (looks_up e.flag && any_agrees s q.«data») _ _ (λ _. bad ExistFinger refl refl)
          (λ _. good (enrolled s e (q.«data» ∷ [])) refl g e.id 0 [])

      on-known : (c : Command) → q.command ≡ Known c → Heard (known s q c)
      on-known WriteParameter k =
          by-given Heard (case_of parameter_number parameters q.flag) _ _ (bad Unsupported refl refl) (λ p.
          by-given Heard (setting_of p q.size) _ _ (bad Unsupported refl refl) (λ v. good _ refl (ap needs_grant k) 0 0 []))
      on-known ReadParameter k =
          by-given Heard (case_of parameter_number parameters q.flag) _ _ (bad Unsupported refl refl)
          (λ p. good s refl (ap needs_grant k) 0 (parameter_value s p) [])
      on-known Enroll k =
          on-enroll Host false (templates_in s.settings.enroll) (λ e. wait_for s q (first_finger e))
          (λ e by h. begins (first_finger e) (k ∙ ap (λ y. Known (enroll_command y)) (sym by)) h (ap by_grant by))
      on-known EnrollTemplate k =
          by-test Heard (not (eqb q.size s.size)) _ _ (λ _. bad Unsupported refl refl)
          (λ _. on-enroll Host false 1 (enroll_now s q) (λ e by h. on-now (ap needs_grant k) e))
      on-known Verify k =
          by-test Heard (not (is_id q.param)) _ _ (λ _. bad InvalidId refl refl)
          (λ _. by-test Heard (eqb (count_of q.param s.held) 0) _ _ (λ _. bad NotFound refl refl)
          (λ _. begins (person_to_verify q.param) k tt refl))
      on-known Identify k =
          by-given Heard (range_of q.param) _ _ (bad InvalidId refl refl) (λ range. begins (person_to_identify range) k tt refl)
      on-known ReadTemplate k =
          by-test Heard (not (is_id q.param)) _ _ (λ _. bad InvalidId refl refl)
          (λ _. by-given Heard (place_of q.param q.size s.held) _ _ (bad NotFound refl refl)
          (λ place. good s refl (ap needs_grant k) 0 s.size (held_at s.held place).template))
      on-known Delete k =
          by-test Heard (not (is_id q.param)) _ _ (λ _. bad InvalidId refl refl)
          (λ _. by-test Heard (eqb (count_of q.param s.held) 0) _ _ (λ _. bad NotFound refl refl)
          (λ _. good _ refl (ap needs_grant k) 0 0 []))
      on-known DeleteAll k = good _ refl (ap needs_grant k) 0 0 []
      on-known ListTemplates k =
          by-test Heard (not (eqb q.size 0) && leb (length s.held) (q.param * q.size)) _ _ (λ _. bad InvalidId refl refl)
          (λ _. good s refl (ap needs_grant k) _ _ _)
      on-known Cancel k = bad NotFound refl refl
      on-known WriteLevel k =
          by-given Heard (level_in q.flag) _ _ (bad Unsupported refl refl) (λ v.
          by-test Heard (not (is_id q.param)) _ _ (λ _. bad InvalidId refl refl) (λ _.
          by-test Heard (eqb (count_of q.param s.held) 0) _ _ (λ _. bad NotFound refl refl) (λ _. on-levelled (ap needs_grant k) v)))
      on-known EnrollByAdministrator k =
          on-enroll Administrator (not (any_admin may_enroll s.admins)) (templates_in s.settings.enroll)
          (λ e. wait_for s q (grant_to_enroll e))
          (λ e by h. begins (grant_to_enroll e) (k ∙ ap (λ y. Known (enroll_command y)) (sym by)) (by, h) refl)
      on-known DeleteByAdministrator k =
          by-given Heard (range_of q.param) _ _ (bad InvalidId refl refl) (λ range.
          by-test Heard (not (any_admin may_delete s.admins)) _ _ (λ _. bad Unsupported refl refl)
          (λ _. begins (grant_to_delete range) k tt refl))
      on-known Unlock k = on-unlock (ap needs_grant k)
      on-known Lock k = good _ refl (ap needs_grant k) 0 0 []
      on-known ChangePassword k =
          by-test Heard (not (eqb q.size 36)) _ _ (λ _. bad Unsupported refl refl) (λ _.
          by-test Heard (not (sum_right 0 q.«data» && sum_right 18 q.«data»)) _ _ (λ _. bad TryAgain refl refl) (λ _.
          by-test Heard (bytes_eq (password_at 0 q.«data») s.password) _ _ (λ _. good _ refl (ap needs_grant k) 0 0 [])
          (λ _. bad NotMatch refl refl)))

      on-started : (c : Coded Command) → q.command ≡ c → Heard (started s q c)
      on-started (Known c) k = on-known c k
      on-started (Unknown m) k = bad Unsupported refl refl

    on-asked : (x : Option Waiting) → Ledger n w ts x → Heard (asked s x q)
    on-asked None i = on-started i q.command refl
    on-asked (Some x) i =
        by-test Heard (known_among command_number (Cancel ∷ []) q.command) _ _
        (λ e. record {
          ledger =
              succeeds-at-once (note w (says x 0 0 Canceled) ∷ ts) None (fails w x 0 0 Canceled i refl) 0 0
              (needs-none Cancel q.command refl e);
        })
        (λ _. bad Busy refl refl)

    on-requested : Sound s → Heard (requested s q)
    on-requested sound =
        by-test Heard s.locked _ _
        (λ h. by-test Heard (known_among command_number (Unlock ∷ []) q.command) _ _
        (λ e. let P : Option Waiting → Type 0 = λ x. Heard (asked s x q) in
        subst P (sym (sound h)) (only-unlock Heard s q q.command e (on-unlock (needs-none Unlock q.command refl e))))
        (λ _. bad Locked refl refl))
        (λ _. on-asked s.waiting l)

module _ (own n : ℕ) (w : Owner) (ts : List Told) (s : State) (mine : own ≡ s.own) (sound : Sound s) (l : Ledger n w ts s.waiting) where
  -- the ledger after a call, or after its refusal
  abbrev Stepped : Event → Result Step Refusal → Type 0
  Stepped e r = Ledger (suc n) (waits own e (answered r) n w) (tells own e n w (answered r) ts) (next_of s r).waiting

  on-refused : (e : Event) (r : Refusal) → Stepped e (Err r)
  on-refused (packet frame) r = tick l
  on-refused (finger scan quality) r = tick l
  on-refused second r = tick l

  on-heard : (frame : List ℕ) (r : Result RequestParts Refusal) → read_request s.settings.network s.own frame ≡ r
      → Stepped (packet frame) (heard s r)
  on-heard frame (Ok q) e =
      let read : read_request s.settings.network own frame ≡ Ok q = ap (λ m. read_request s.settings.network m frame) mine ∙ e in
      (on-requested own n w ts frame q (packet-there s.settings.network own n frame q read) s l sound).ledger
  on-heard frame (Err r) e = on-refused (packet frame) r

  on-finger : (scan : List ℕ) (quality : ℕ) (x : Option Waiting) → Ledger n w ts x
      → After own n w ts (finger scan quality) (on_finger s x scan quality)
  on-finger scan quality None i = record { ledger = tick l }
  on-finger scan quality (Some x) i =
      by-test (After own n w ts (finger scan quality)) (not (eqb (length scan) s.size) || ltb 100 quality) _ _
      (λ _. record { ledger = tick (fails w x 0 0 ScanFail i refl) }) (λ _.
      by-test (After own n w ts (finger scan quality)) (ltb quality 30) _ _
      (λ _. record { ledger = tick (fails w x 0 0 TryAgain i refl) })
      (λ _. on-pressed own n w ts s x i scan quality x.phase refl))

  on-second : (x : Option Waiting) → Ledger n w ts x → After own n w ts second (on_second s x)
  on-second None i = record { ledger = tick l }
  on-second (Some x) i =
      by-test (After own n w ts second) (eqb x.left 1) _ _ (λ _. record { ledger = tick (fails w x 0 0 TimeOut i refl) })
      (λ _. record { ledger = tick (calm w x (record { form = x.form; phase = x.phase; left = x.left - 1 }) i (stays x.phase)) })

  on-event : (e : Event) → Stepped e (on_event s e)
  on-event (packet frame) = on-heard frame (read_request s.settings.network s.own frame) refl
  on-event (finger scan quality) = (on-finger scan quality s.waiting l).ledger
  on-event second = (on-second s.waiting l).ledger

  on_call : (c : Call) → Stepped c.event (step_of s c)
  on_call c =
      by-test (Stepped c.event) (ltb (length c.out) 2048) _ _ (λ _. on-refused c.event AnswerBuffer)
      (λ _. by-test (Stepped c.event) (ltb (length c.work) 384) _ _ (λ _. on-refused c.event WorkBuffer) (λ _. on-event c.event))

pub ledger-step : (own n : ℕ) (w : Owner) (ts : List Told) (s : State) → own ≡ s.own → Sound s → Ledger n w ts s.waiting → (c : Call)
    → Ledger (suc n) (waits own c.event (answered (step_of s c)) n w)
    (tells own c.event n w (answered (step_of s c)) ts) (next_of s (step_of s c)).waiting
ledger-step own n w ts s mine sound l c = on_call own n w ts s mine sound l c
