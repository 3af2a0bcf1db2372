-- The tally is what is held, call by call.
use Rattle.std.proofs.Common.{◌≡◌, ℕ, ◌+◌, ◌-◌, ◌*◌, ◌≤◌, max, Bool, true, false, cond, not, ◌&&◌, ◌||◌, eqb, ltb, leb}
use Rattle.std.proofs.Common.{List, [], ◌∷◌, ◌++◌, map, length, replicate, is_some, Some, None, Ok, Err, count_by}
use Rattle.std.proofs.Common.{Option, Result, sym, refl, ap, ◌∙◌, subst, arith}
use Rattle.codes.specs.Commands.{command_number}
use Rattle.codes.specs.Flags.{flag_number, flags}
use Rattle.codes.specs.Numbers.{case_of}
use Rattle.codes.specs.Parameters.{parameter_number, parameters}
use Rattle.codes.specs.declared.code.Code.{Code}
use Rattle.codes.specs.declared.code.Code.TheVariants.{
  Success,
  ScanSuccess,
  ScanFail,
  NotFound,
  NotMatch,
  TryAgain,
  TimeOut,
  MemFull,
  Continue,
  Unsupported,
  InvalidId,
  Busy,
  Canceled,
  ExistFinger,
  Locked,
  ExistId,
  FingerLimit,
}
use Rattle.codes.specs.declared.command.Command.{Command}
use Rattle.codes.specs.declared.command.Command.TheVariants.{
  WriteParameter,
  ReadParameter,
  Enroll,
  EnrollTemplate,
  Verify,
  Identify,
  ReadTemplate,
  Delete,
  DeleteAll,
  ListTemplates,
  Cancel,
  WriteLevel,
  EnrollByAdministrator,
  DeleteByAdministrator,
  Unlock,
  Lock,
  ChangePassword,
}
use Rattle.codes.specs.declared.numbered.Coded.{Coded}
use Rattle.codes.specs.declared.numbered.Coded.TheVariants.{Known, Unknown}
use Rattle.codes.specs.declared.parameter.Parameter.{Parameter}
use Rattle.codes.specs.declared.parameter.Parameter.TheVariants.{AvailableFinger}
use Rattle.codes.specs.declared.refusal.Refusal.{Refusal}
use Rattle.memory.specs.Held.{Held, held_at}
use Rattle.packet.specs.Data.{known_among}
use Rattle.packet.specs.Requests.{RequestParts, read_request}
use Rattle.packet.specs.declared.response.Outcome.{Outcome}
use Rattle.search.specs.Ids.{count_of, place_of}
use Rattle.std.proofs.lemmas.List.{length-append, length-map, map-append}
use Rattle.std.specs.Str.{bytes_eq}
use Rattle.machine.proofs.Enrolled.{length-without}
use Rattle.machine.specs.Administrators.{any_admin, changed, if_any, is_admin, level_of, may_delete, may_enroll, struck}
use Rattle.machine.specs.Answers.{Said, Step, answer_data, go, just, outcome, tell}
use Rattle.machine.specs.Enrollment.{enroll_id, enrolled, looks_up, staying}
use Rattle.machine.specs.Ids.{is_id, range_of}
use Rattle.machine.specs.Machine.{Call, Event, asked, heard, next_of, on_event, requested, step_of}
use Rattle.machine.specs.Machine.Event.{packet, finger, second}
use Rattle.machine.specs.Ready.{CanEnroll, ReadyAt, ReadyIn}
use Rattle.machine.specs.Requests.{Wanted, enroll, enroll_now, known, level_in, levelled, parameter_value, password_at}
use Rattle.machine.specs.Requests.{started, sum_right, wait_for}
use Rattle.machine.specs.Requests.Wanted.{no_level, wanted}
use Rattle.machine.specs.Searches.{agrees, any_agrees, found_by, found_in, found_one, without}
use Rattle.machine.specs.Settings.{set, setting_of, templates_in}
use Rattle.machine.specs.State.{Phase, State, Waiting, awaiting, command_of, configured, enroll_command, fresh, guarded, holding, locking}
use Rattle.machine.specs.State.Phase.{
  grant_to_enroll,
  grant_to_delete,
  first_finger,
  second_finger,
  person_to_verify,
  person_to_identify,
  person_to_delete,
}
use Rattle.machine.specs.Waiting.{
  better,
  deleted,
  done,
  ended,
  first,
  goes_on,
  granted,
  identified,
  on_finger,
  on_second,
  pressed,
  scanned,
  second as second_scan,
  verified,
}
use Rattle.machine.specs.declared.enrollment.Enroller.{Enroller}
use Rattle.machine.specs.declared.enrollment.Enroller.TheVariants.{Host, Administrator}
use Rattle.machine.specs.declared.enrollment.Enrollment.{Enrollment}
use Rattle.machine.specs.declared.level.AdminRow.{AdminRow}
use Rattle.machine.specs.declared.level.Level.{Level}
use Rattle.machine.specs.declared.settings.EnrollMode.{EnrollMode}
use Rattle.machine.specs.declared.settings.EnrollMode.TheVariants.{Once, Twice, TwoTemplates}
use Rattle.machine.specs.declared.settings.Settings.{Settings}
use Rattle.machine.specs.declared.settings.Setting.{Setting}
use Rattle.machine.specs.declared.settings.Switch.{Switch}
use Rattle.machine.specs.declared.settings.Switch.TheVariants.{Off, On}
use Rattle.promises.specs.Grants.{Each}
use Rattle.promises.specs.Promises.{OnGrant, allowed, allowed_by}
use Rattle.promises.specs.Record.{
  Mark,
  Owner,
  Tally,
  Told,
  adds,
  counted,
  credited,
  enrolled_in,
  has,
  level_wanted,
  levelled_in,
  mark,
  packet_at,
  setting_for,
  settings_with,
  settled,
  strike,
  struck_from,
  succeeded,
  succeeded_by,
  tally,
  tells,
  written_in,
}
use Rattle.promises.specs.Record.Mark.{failure}
use Rattle.promises.specs.Record.Owner.{nobody, owner}
use Rattle.promises.specs.Runs.{answered}
use Rattle.promises.proofs.Listed.{Allowed, Fits, Stay, case-number, clash, count-append, count-ids, count_under}
use Rattle.promises.proofs.Listed.{count-without, either_way, fits, found-allowed, has_kept, has-neither, has-struck}
use Rattle.promises.proofs.Listed.{has_there, ids, ids-under, ids-without, is-it, level-changed, level-changed-kept}
use Rattle.promises.proofs.Listed.{level-kept, level-pushed, level-pushed-kept, level-struck, not_first, stay, under}
use Rattle.promises.proofs.Pending.{Detail, Pending, PendingAt}
use Rattle.promises.proofs.Reading.{packet-there}
use Rattle.promises.proofs.Ways.{by-fault, by-given, by-test, given-some, is-command, never}

-- an enrolment that waits still has its room: it was tested when the request came, and nothing changed since
abbrev pub RoomFor : State → Enrollment → Type 0
RoomFor s e = Fits s.room s.held e.flag e.id (templates_in s.settings.enroll)

abbrev pub RoomAt : ℕ → List Held → ℕ → Phase → Type 0
RoomAt room h needed (grant_to_enroll e) = Fits room h e.flag e.id needed
RoomAt room h needed (grant_to_delete range) = Unit {0}
RoomAt room h needed (first_finger e) = Fits room h e.flag e.id needed
RoomAt room h needed (second_finger e one quality) = Fits room h e.flag e.id needed
RoomAt room h needed (person_to_verify id) = Unit {0}
RoomAt room h needed (person_to_identify range) = Unit {0}
RoomAt room h needed (person_to_delete range) = Unit {0}

abbrev pub RoomIn : ℕ → List Held → ℕ → Option Waiting → Type 0
RoomIn room h needed None = Unit {0}
RoomIn room h needed (Some w) = RoomAt room h needed w.phase

abbrev pub Roomy : State → Option Waiting → Type 0
Roomy s w = RoomIn s.room s.held (templates_in s.settings.enroll) w

-- so it can be carried out
can-enroll : (s : State) (e : Enrollment) → RoomFor s e → CanEnroll s e
can-enroll s e f = record { some_id = f.some_id; places = f.free }

pub ready_in : (s : State) (w : Option Waiting) → Roomy s w → ReadyIn s w
ready_in s None r = tt
ready_in s (Some w) r = at w.phase r
  where
    at : (p : Phase) → RoomAt s.room s.held (templates_in s.settings.enroll) p → ReadyAt s p
    at (grant_to_enroll e) r = can-enroll s e r
    at (grant_to_delete range) r = tt
    at (first_finger e) r = can-enroll s e r
    at (second_finger e one quality) r = can-enroll s e r
    at (person_to_verify id) r = tt
    at (person_to_identify range) r = tt
    at (person_to_delete range) r = tt

-- the tally is what is held
pub record Kept (ts : List Told) (s : State) : Type 0 where
  pub listed : (tally ts).ids ≡ map (λ e. e.id) s.held
  pub level : (i : ℕ) → (tally ts).level i ≡ level_of i s.admins
  pub settings : (tally ts).settings ≡ s.settings
  pub rows : (i : ℕ) → has i (map (λ e. e.id) s.held) ≡ false → level_of i s.admins ≡ None
  pub ten : (i : ℕ) → count_of i s.held ≤ 10
  pub room : length s.held ≤ s.room
  pub ready : Roomy s s.waiting
  pub allowed_then : Each allowed ts

-- another wait
rested : {ts : List Told} {s : State} → Kept ts s → (x : Option Waiting) → Roomy s x → Kept ts (awaiting s x)
rested k x r = record {
  listed = k.listed;
  level = k.level;
  settings = k.settings;
  rows = k.rows;
  ten = k.ten;
  room = k.room;
  ready = r;
  allowed_then = k.allowed_then;
}

-- an outcome that is neither SUCCESS nor CONTINUE
quiet : {ts : List Told} {s : State} → Kept ts s → (t : Told) → ((y : Tally) → counted (mark t.out.code) t.of t.out y ≡ y)
    → ((P : Type 0) → OnGrant (mark t.out.code) P) → Kept (t ∷ ts) s
quiet {ts} {s} k t c g =
    let e : tally (t ∷ ts) ≡ tally ts = c (tally ts) in
    record {
      listed = ap (λ (y : Tally). y.ids) e ∙ k.listed;
      level = λ i. ap (λ (y : Tally). y.level i) e ∙ k.level i;
      settings = ap (λ (y : Tally). y.settings) e ∙ k.settings;
      rows = k.rows;
      ten = k.ten;
      room = k.room;
      ready = k.ready;
      allowed_then = (g _, k.allowed_then);
    }

fails : {ts : List Told} {s : State} → Kept ts s → (v : Owner) (o : Outcome) → mark o.code ≡ failure
    → Kept ((record { of = v; out = o }) ∷ ts) s
fails k v o m =
    quiet k (record { of = v; out = o }) (λ y. ap (λ z. counted z v o y) m)
    (λ P. let Q : Mark → Type 0 = λ z. OnGrant z P in subst Q (sym m) tt)

-- the tally before it settles, and what is held, after a SUCCESS
record Changed (y : Tally) (size : ℕ) (h : List Held) (table : List AdminRow) (p : Settings) : Type 0 where
  listed : y.ids ≡ ids h
  level : (i : ℕ) → has i (ids h) ≡ true → y.level i ≡ level_of i table
  settings : y.settings ≡ p
  rows : (i : ℕ) → has i (ids h) ≡ false → level_of i table ≡ None
  ten : (i : ℕ) → count_of i h ≤ 10
  room : length h ≤ size

settle : (b : Bool) (u v : Option Level) → (b ≡ true → u ≡ v) → (b ≡ false → v ≡ None) → cond b u None ≡ v
settle true u v p q = p refl
settle false u v p q = sym (q refl)

success-kept : {ts : List Told} {s : State} (v : Owner) (p : ℕ) (q : RequestParts) (c : Command) → v ≡ owner p q → q.command ≡ Known c
    → (byte : Coded Command) (param size : ℕ) → Each allowed ts
    → Changed (succeeded_by c q (outcome byte param size Success) (tally ts)) s.room s.held s.admins s.settings
    → Roomy s s.waiting → Kept ((record { of = v; out = outcome byte param size Success }) ∷ ts) s
success-kept {ts} {s} v p q c is by byte param size a k r =
    let o : Outcome = outcome byte param size Success in
    let t : Told = record { of = v; out = o } in
    let y : Tally = succeeded_by c q o (tally ts) in
    let e : tally (t ∷ ts) ≡ settled y = ap (λ z. credited z o (tally ts)) is ∙ ap (λ z. succeeded z q o (tally ts)) by in
    record {
      listed = ap (λ (z : Tally). z.ids) e ∙ k.listed;
      level = λ i.
          ap (λ (z : Tally). z.level i) e ∙ ap (λ l. cond (has i l) (y.level i) None) k.listed
          ∙ settle (has i (ids s.held)) (y.level i) (level_of i s.admins) (k.level i) (k.rows i);
      settings = ap (λ (z : Tally). z.settings) e ∙ k.settings;
      rows = k.rows;
      ten = k.ten;
      room = k.room;
      ready = r;
      allowed_then = (tt, a);
    }

unchanged : {ts : List Told} {s : State} → Kept ts s → Changed (tally ts) s.room s.held s.admins s.settings
unchanged k = record {
  listed = k.listed;
  level = λ i _. k.level i;
  settings = k.settings;
  rows = k.rows;
  ten = k.ten;
  room = k.room;
}

-- an ID is struck
struck-changed : {ts : List Told} {s : State} → Kept ts s → (id : ℕ)
    → Changed (struck_from id (tally ts)) s.room (without id s.held) (struck id s.admins) s.settings
struck-changed {ts} {s} k id =
    let now : ids (without id s.held) ≡ strike id (ids s.held) = ids-without id s.held in
    record {
      listed = ap (strike id) k.listed ∙ sym now;
      level = λ i h. either_way (eqb id i)
          (λ q. clash (ap (λ z. has z (ids (without id s.held))) (sym (is-it id i q)) ∙ ap (has id) now ∙ has-struck id (ids s.held)) h)
          (λ q. k.level i ∙ sym (level-kept id i q s.admins));
      settings = k.settings;
      rows = λ i h. either_way (eqb id i)
          (λ q. ap (λ z. level_of z (struck id s.admins)) (sym (is-it id i q)) ∙ level-struck id s.admins)
          (λ q. level-kept id i q s.admins ∙ k.rows i (sym (has_kept id i q (ids s.held)) ∙ sym (ap (has i) now) ∙ h));
      ten = λ i. omega (arith, count-without id i s.held, k.ten i);
      room = omega (arith, length-without id s.held, k.room);
    }

-- the level of a listed ID is another
levelled-changed : {ts : List Told} {s : State} → Kept ts s → (id flag : ℕ) (level : Option Level) → level_wanted (level_in flag) ≡ level
    → (table : List AdminRow) → level_of id table ≡ level → ((i : ℕ) → eqb id i ≡ false → level_of i table ≡ level_of i s.admins)
    → has id (ids s.held) ≡ true → Changed (levelled_in id flag (tally ts)) s.room s.held table s.settings
levelled-changed {ts} {s} k id flag level l table here others h = record {
  listed = k.listed;
  level = λ i _. either_way (eqb id i)
      (λ q. ap (λ b. cond b (level_wanted (level_in flag)) ((tally ts).level i)) q ∙ l ∙ sym here
      ∙ ap (λ z. level_of z table) (is-it id i q))
      (λ q. ap (λ b. cond b (level_wanted (level_in flag)) ((tally ts).level i)) q ∙ k.level i ∙ sym (others i q));
  settings = k.settings;
  rows = λ i g. either_way (eqb id i)
      (λ q. clash g (ap (λ z. has z (ids s.held)) (sym (is-it id i q)) ∙ h))
      (λ q. others i q ∙ k.rows i g);
  ten = k.ten;
  room = k.room;
}

-- an enrolment: new templates, at least one
enrolled-changed : {ts : List Told} {s : State} → Kept ts s → (e : Enrollment) (n needed : ℕ) (t : List ℕ) (more : List (List ℕ))
    → case_of flag_number flags n ≡ Some e.flag → needed ≡ length (t ∷ more) → Fits s.room s.held e.flag e.id needed
    → Changed (enrolled_in e.id n needed (tally ts)) s.room (staying e.flag e.id s.held ++ under e.id (t ∷ more)) s.admins
    s.settings
enrolled-changed {ts} {s} k e n needed t more c z fit =
    let id : ℕ = e.id in
    let base : List Held = staying e.flag id s.held in
    let b : Stay s.held e.flag id = stay s.held e.flag id in
    let f : eqb n 0 ≡ eqb (flag_number e.flag) 0 = ap (λ x. eqb x 0) (case-number flag_number flags n e.flag c) in
    let now : ids (base ++ under id (t ∷ more)) ≡ ids base ++ replicate (length (t ∷ more)) id =
    map-append (λ x. x.id) base (under id (t ∷ more)) ∙ ap (λ l. ids base ++ l) (ids-under id (t ∷ more)) in
    record {
      listed = ap (λ l. cond (eqb n 0) (strike id l) l ++ replicate needed id) k.listed
          ∙ ap (λ x. cond x (strike id (ids s.held)) (ids s.held) ++ replicate needed id) f
          ∙ ap (λ l. l ++ replicate needed id) (sym b.listed) ∙ ap (λ m. ids base ++ replicate m id) z ∙ sym now;
      level = λ i _. k.level i;
      settings = k.settings;
      rows = λ i q.
          let y : (has i (ids base) ≡ false) × (has i (replicate (length (t ∷ more)) id) ≡ false) =
          has-neither i (ids base) (replicate (length (t ∷ more)) id) (sym (ap (has i) now) ∙ q) in
          k.rows i (sym (b.others i (not_first i id (replicate (length more) id) y.1)) ∙ y.0);
      ten = λ i. either_way (eqb id i)
          (λ q. let same : count_of i base ≡ count_of id base = ap (λ x. count_of x base) (sym (is-it id i q)) in
          let new : cond (eqb id i) (length (t ∷ more)) 0 ≡ length (t ∷ more) = ap (λ x. cond {A = ℕ} x (length (t ∷ more)) 0) q in
          omega (arith, count-append i base (under id (t ∷ more)), count_under id i (t ∷ more), fit.ten))
          (λ q. let new : cond (eqb id i) (length (t ∷ more)) 0 ≡ 0 = ap (λ x. cond {A = ℕ} x (length (t ∷ more)) 0) q in
          omega (arith, count-append i base (under id (t ∷ more)), count_under id i (t ∷ more), b.fewer i, k.ten i));
      room =
          let new : length (under id (t ∷ more)) ≡ length (t ∷ more) = length-map (t ∷ more) (λ x. record { id = id; template = x }) in
          omega (arith, length-append base (under id (t ∷ more)), fit.free, b.shorter, k.room);
    }

-- whose a wait is
record Owned (v : Owner) (phase : Phase) : Type 0 where
  place : ℕ
  request : RequestParts
  is : v ≡ owner place request
  command : request.command ≡ Known (command_of phase)
  detail : Detail request phase

owned : (n : ℕ) (phase : Phase) (v : Owner) (ts : List Told) → PendingAt n phase v ts → Owned v phase
owned n phase nobody ts a = absurd a
owned n phase (owner p q) ts a = record { place = p; request = q; is = refl; command = a.command; detail = a.detail }

enroll-succeeds : (by : Enroller) (q : RequestParts) (o : Outcome) (y : Tally)
    → succeeded_by (enroll_command by) q o y ≡ enrolled_in o.param q.flag (templates_in y.settings.enroll) y
enroll-succeeds Host q o y = refl
enroll-succeeds Administrator q o y = refl

few : (m : EnrollMode) → templates_in m ≤ 2
few Once = omega arith
few Twice = omega arith
few TwoTemplates = omega arith

pub record After (own n : ℕ) (v : Owner) (ts : List Told) (e : Event) (x : Step) : Type 0 where
  pub kept : Kept (adds own e n v (map (λ y. y.outcome) x.said) ts) x.next

-- a finger, while something waits
module _ (own n : ℕ) (v : Owner) (ts : List Told) (s : State) (k : Kept ts s) (w : Waiting) (scan : List ℕ) (quality : ℕ) where
  abbrev A : Step → Type 0
  A x = After own n v ts (finger scan quality) x

  -- a good scan is told or not, and then the rest
  after-scan : (sw : Switch) (xs : List Said) (st : State)
      → ((us : List Told) → Kept us s → Kept (adds own (finger scan quality) n v (map (λ y. y.outcome) xs) us) st)
      → A (go st (scanned sw w xs))
  after-scan Off xs st f = record { kept = f ts k }
  after-scan On xs st f =
      record { kept = f _ (quiet k (record { of = v; out = (tell w 0 0 ScanSuccess).outcome }) (λ _. refl) (λ _. tt)) }

  misses : (code : Code) → mark code ≡ failure → A (ended s w 0 0 code)
  misses code m =
      after-scan s.settings.scans (tell w 0 0 code ∷ []) (awaiting s None)
      (λ us j. rested (fails j v (tell w 0 0 code).outcome m) None tt)

  -- a SUCCESS ends the wait
  ends : (c : Command) (o : Owned v w.phase) → command_of w.phase ≡ c → (st : State) (param size : ℕ)
      → ((us : List Told) → Kept us s
      → Changed (succeeded_by c o.request (tell w param size Success).outcome (tally us)) st.room st.held st.admins st.settings)
      → A (go (awaiting st None) (scanned s.settings.scans w (tell w param size Success ∷ [])))
  ends c o e st param size f =
      after-scan s.settings.scans (tell w param size Success ∷ []) (awaiting st None)
      (λ us j. success-kept v o.place o.request c o.is (o.command ∙ ap (λ x. Known x) e) (Known (command_of w.phase)) param size
      j.allowed_then (f us j) tt)

  on-granted : (phase : Phase) → RoomAt s.room s.held (templates_in s.settings.enroll) phase → (f : Level → Bool)
      → ((level : ℕ → Option Level) (i : ℕ) → if_any f (level i) ≡ true → allowed_by level (Known (command_of w.phase)) i ≡ true)
      → (x : Option (ℕ × ℕ)) → Allowed (is_admin f s.admins) x → A (granted s w phase x)
  on-granted phase r f a None h = misses NotMatch refl
  on-granted phase r f a (Some x) h =
      after-scan s.settings.scans (tell w x.0 0 Continue ∷ [])
      (awaiting s (Some (record { form = w.form; phase = phase; left = s.settings.timeout })))
      (λ us j. record {
        listed = j.listed;
        level = j.level;
        settings = j.settings;
        rows = j.rows;
        ten = j.ten;
        room = j.room;
        ready = r;
        allowed_then = (a (tally us).level x.0 (ap (if_any f) (j.level x.0) ∙ h), j.allowed_then);
      })

  module _ (e : Enrollment) (r : RoomFor s e) (o : Owned v w.phase) (by : command_of w.phase ≡ enroll_command e.by)
      (flag : case_of flag_number flags o.request.flag ≡ Some e.flag) where
    on-done : (t : List ℕ) (more : List (List ℕ)) (best : ℕ) → templates_in s.settings.enroll ≡ length (t ∷ more)
        → A (done s w e (t ∷ more) best)
    on-done t more best z =
        ends (enroll_command e.by) o by (enrolled s e (t ∷ more)) e.id best
        (λ us j.
        let q : RequestParts = o.request in
        let P : Tally → Type 0 = λ y. Changed y s.room (staying e.flag e.id s.held ++ under e.id (t ∷ more)) s.admins s.settings in
        let fields : enrolled_in e.id q.flag (templates_in (tally us).settings.enroll) (tally us)
        ≡ enrolled_in e.id q.flag (templates_in s.settings.enroll) (tally us) =
        ap (λ (p : Settings). enrolled_in e.id q.flag (templates_in p.enroll) (tally us)) j.settings in
        subst P (sym (enroll-succeeds e.by q (tell w e.id best Success).outcome (tally us) ∙ fields))
        (enrolled-changed j e q.flag (templates_in s.settings.enroll) t more flag z r))

    goes : (phase : Phase) → RoomAt s.room s.held (templates_in s.settings.enroll) phase → A (goes_on s w phase [])
    goes phase fit =
        after-scan s.settings.scans [] (awaiting s (Some (record { form = w.form; phase = phase; left = s.settings.timeout })))
        (λ us j. rested j _ fit)

    on-first : (m : EnrollMode) → s.settings.enroll ≡ m → A (first s w e m scan quality)
    on-first Once z = on-done scan [] quality (ap templates_in z)
    on-first Twice z = goes (second_finger e scan quality) r
    on-first TwoTemplates z = goes (second_finger e scan quality) r

    on-second-scan : (m : EnrollMode) → s.settings.enroll ≡ m → (one : List ℕ) (q1 : ℕ) → A (second_scan s w e m one q1 scan quality)
    on-second-scan Once z one q1 = on-done (better one q1 scan quality) [] (max q1 quality) (ap templates_in z)
    on-second-scan Twice z one q1 = on-done (better one q1 scan quality) [] (max q1 quality) (ap templates_in z)
    on-second-scan TwoTemplates z one q1 = on-done one (scan ∷ []) (max q1 quality) (ap templates_in z)

  on-verified : Owned v w.phase → command_of w.phase ≡ Verify → (x : Option (ℕ × ℕ)) → A (verified s w x)
  on-verified o c None = misses NotMatch refl
  on-verified o c (Some x) = ends Verify o c s x.0 x.1 (λ us j. unchanged j)

  on-identified : Owned v w.phase → command_of w.phase ≡ Identify → (x : Option (ℕ × ℕ)) → A (identified s w x)
  on-identified o c None = misses NotFound refl
  on-identified o c (Some x) = ends Identify o c s x.0 x.1 (λ us j. unchanged j)

  on-deleted : Owned v w.phase → command_of w.phase ≡ DeleteByAdministrator → (x : Option (ℕ × ℕ)) → A (deleted s w x)
  on-deleted o c None = misses NotFound refl
  on-deleted o c (Some x) =
      by-test A (is_some (level_of x.0 s.admins)) _ _ (λ _. misses Unsupported refl)
      (λ _. ends DeleteByAdministrator o c (holding s (without x.0 s.held) (struck x.0 s.admins)) x.0 0
      (λ us j. struck-changed j x.0))

  on-pressed : (p : Phase) → w.phase ≡ p → RoomAt s.room s.held (templates_in s.settings.enroll) p → (o : Owned v w.phase)
      → Detail o.request p → A (pressed s w p scan quality)
  on-pressed (grant_to_enroll e) c r o d =
      on-granted (first_finger e) r may_enroll
      (λ level i h. ap (λ x. allowed_by level (Known (command_of x)) i) c ∙ ap (λ x. allowed_by level (Known (enroll_command x)) i) d.0
      ∙ ap (λ b. b || false) h)
      (found_by s (is_admin may_enroll s.admins) scan) (found-allowed (is_admin may_enroll s.admins) (agrees s scan) [] s.held)
  on-pressed (grant_to_delete range) c r o d =
      on-granted (person_to_delete range) tt may_delete
      (λ level i h. ap (λ x. allowed_by level (Known (command_of x)) i) c ∙ h)
      (found_by s (is_admin may_delete s.admins) scan) (found-allowed (is_admin may_delete s.admins) (agrees s scan) [] s.held)
  on-pressed (first_finger e) c r o d =
      by-test A (looks_up e.flag && any_agrees s scan) _ _ (λ _. misses ExistFinger refl)
      (λ _. on-first e r o (ap command_of c) d s.settings.enroll refl)
  on-pressed (second_finger e one q1) c r o d =
      by-test A (agrees s scan one) _ _ (λ _. on-second-scan e r o (ap command_of c) d s.settings.enroll refl one q1)
      (λ _. misses TryAgain refl)
  on-pressed (person_to_verify id) c r o d = on-verified o (ap command_of c) (found_one s id scan)
  on-pressed (person_to_identify range) c r o d = on-identified o (ap command_of c) (found_in s range scan)
  on-pressed (person_to_delete range) c r o d = on-deleted o (ap command_of c) (found_in s range scan)

module _ (own n : ℕ) (v : Owner) (ts : List Told) (s : State) (k : Kept ts s) where
  on-finger : (x : Option Waiting) → Roomy s x → Pending n x v ts → (scan : List ℕ) (quality : ℕ)
      → After own n v ts (finger scan quality) (on_finger s x scan quality)
  on-finger None r o scan quality = record { kept = k }
  on-finger (Some w) r o scan quality =
      by-test (After own n v ts (finger scan quality)) (not (eqb (length scan) s.size) || ltb 100 quality) _ _
      (λ _. record { kept = rested (fails k v (tell w 0 0 ScanFail).outcome refl) None tt }) (λ _.
      by-test (After own n v ts (finger scan quality)) (ltb quality 30) _ _
      (λ _. record { kept = rested (fails k v (tell w 0 0 TryAgain).outcome refl) None tt }) (λ _.
      let z : Owned v w.phase = owned n w.phase v ts o in
      on-pressed own n v ts s k w scan quality w.phase refl r z z.detail))

  on-second : (x : Option Waiting) → Roomy s x → After own n v ts second (on_second s x)
  on-second None r = record { kept = k }
  on-second (Some w) r =
      by-test (After own n v ts second) (eqb w.left 1) _ _
      (λ _. record { kept = rested (fails k v (tell w 0 0 TimeOut).outcome refl) None tt })
      (λ _. record { kept = rested k (Some (record { form = w.form; phase = w.phase; left = w.left - 1 })) r })

  -- a packet that was accepted
  module _ (frame : List ℕ) (q : RequestParts) (there : packet_at own n frame ≡ owner n q) where
    abbrev B : Step → Type 0
    B x = After own n v ts (packet frame) x

    refuse : (code : Code) → mark code ≡ failure → B (just s q code)
    refuse code m = record { kept = fails k _ (outcome q.command 0 0 code) m }

    succeeds : (c : Command) → q.command ≡ Known c → (st : State) (param size : ℕ) (bs : List ℕ)
        → Changed (succeeded_by c q (outcome q.command param size Success) (tally ts)) st.room st.held st.admins st.settings
        → Roomy st st.waiting → B (go st (answer_data q param size Success bs))
    succeeds c e st param size bs d r =
        record { kept = success-kept (packet_at own n frame) n q c there e q.command param size k.allowed_then d r }

    waits : (phase : Phase) → RoomAt s.room s.held (templates_in s.settings.enroll) phase → B (wait_for s q phase)
    waits phase r = record { kept = rested k (Some (record { form = q.form; phase = phase; left = s.settings.timeout })) r }

    on-enroll : (by : Enroller) (missing : Bool) (needed : ℕ) (f : Enrollment → Step) → needed ≤ 2
        → ((e : Enrollment) → case_of flag_number flags q.flag ≡ Some e.flag → Fits s.room s.held e.flag e.id needed → B (f e))
        → B (enroll s q by missing needed f)
    on-enroll by missing needed f small p =
        given-some B (case_of flag_number flags q.flag) _ _ (refuse Unsupported refl) (λ flag c.
        given-some B (enroll_id s flag q.param) _ _ (refuse InvalidId refl) (λ id i.
        by-test B missing _ _ (λ _. refuse Unsupported refl) (λ _.
        by-fault B s flag id needed (just s q) _ (refuse ExistId refl) (refuse FingerLimit refl) (refuse MemFull refl)
        (λ m. p (record { id = id; flag = flag; by = by }) c (fits s flag q.param id needed small i m)))))

    -- it awaits nothing
    module _ (idle : s.waiting ≡ None) where
      free : (size : ℕ) (h : List Held) (needed : ℕ) → RoomIn size h needed s.waiting
      free size h needed = let P : Option Waiting → Type 0 = λ x. RoomIn size h needed x in subst P (sym idle) tt

      on-levelled : q.command ≡ Known WriteLevel → (l : Wanted) → level_in q.flag ≡ Some l → has q.param (ids s.held) ≡ true
          → B (levelled s q l)
      on-levelled e no_level z h =
          succeeds WriteLevel e (holding s s.held (struck q.param s.admins)) 0 0 []
          (levelled-changed k q.param q.flag None (ap level_wanted z) (struck q.param s.admins) (level-struck q.param s.admins)
          (λ i d. level-kept q.param i d s.admins) h) (free _ _ _)
      on-levelled e (wanted level) z h =
          by-test B (is_some (level_of q.param s.admins)) _ _
          (λ d. succeeds WriteLevel e (holding s s.held (changed q.param level s.admins)) 0 0 []
          (levelled-changed k q.param q.flag (Some level) (ap level_wanted z) (changed q.param level s.admins)
          (level-changed q.param level s.admins d) (λ i m. level-changed-kept q.param i m level s.admins) h) (free _ _ _))
          (λ d. by-test B (ltb (length s.admins) 16) _ _
          (λ _. succeeds WriteLevel e (holding s s.held (s.admins ++ (record { id = q.param; level = level }) ∷ [])) 0 0 []
          (levelled-changed k q.param q.flag (Some level) (ap level_wanted z) (s.admins ++ (record { id = q.param; level = level }) ∷ [])
          (level-pushed q.param level s.admins d) (λ i m. level-pushed-kept q.param i m level s.admins) h) (free _ _ _))
          (λ _. refuse MemFull refl))

      on-now : q.command ≡ Known EnrollTemplate → (e : Enrollment) → case_of flag_number flags q.flag ≡ Some e.flag
          → Fits s.room s.held e.flag e.id 1 → B (enroll_now s q e)
      on-now c e f fit =
          by-test B (looks_up e.flag && any_agrees s q.«data») _ _ (λ _. refuse ExistFinger refl)
          (λ _. succeeds EnrollTemplate c (enrolled s e (q.«data» ∷ [])) e.id 0 []
          (enrolled-changed k e q.flag 1 q.«data» [] f refl fit) (free _ _ _))

      written : (p : Parameter) (x : Setting) → case_of parameter_number parameters q.flag ≡ Some p → setting_of p q.size ≡ Some x
          → Changed (written_in q.flag q.size (tally ts)) s.room s.held s.admins (set s.settings x)
      written p x c d = record {
        listed = k.listed;
        level = λ i _. k.level i;
        settings = ap (λ y. settings_with (tally ts).settings (setting_for y q.size)) c ∙ ap (λ y. settings_with (tally ts).settings y) d
            ∙ ap (λ y. set y x) k.settings;
        rows = k.rows;
        ten = k.ten;
        room = k.room;
      }

      on-known : (c : Command) → q.command ≡ Known c → B (known s q c)
      on-known WriteParameter e =
          given-some B (case_of parameter_number parameters q.flag) _ _ (refuse Unsupported refl) (λ p c.
          given-some B (setting_of p q.size) _ _ (refuse Unsupported refl) (λ x d.
          succeeds WriteParameter e (configured s (set s.settings x)) 0 0 [] (written p x c d) (free _ _ _)))
      on-known ReadParameter e =
          by-given B (case_of parameter_number parameters q.flag) _ _ (refuse Unsupported refl)
          (λ _. succeeds ReadParameter e s _ _ [] (unchanged k) k.ready)
      on-known Enroll e =
          on-enroll Host false (templates_in s.settings.enroll) (λ x. wait_for s q (first_finger x)) (few s.settings.enroll)
          (λ x _ r. waits (first_finger x) r)
      on-known EnrollTemplate e =
          by-test B (not (eqb q.size s.size)) _ _ (λ _. refuse Unsupported refl)
          (λ _. on-enroll Host false 1 (enroll_now s q) (omega arith) (on-now e))
      on-known Verify e =
          by-test B (not (is_id q.param)) _ _ (λ _. refuse InvalidId refl)
          (λ _. by-test B (eqb (count_of q.param s.held) 0) _ _ (λ _. refuse NotFound refl) (λ _. waits (person_to_verify q.param) tt))
      on-known Identify e = by-given B (range_of q.param) _ _ (refuse InvalidId refl) (λ range. waits (person_to_identify range) tt)
      on-known ReadTemplate e =
          by-test B (not (is_id q.param)) _ _ (λ _. refuse InvalidId refl)
          (λ _. by-given B (place_of q.param q.size s.held) _ _ (refuse NotFound refl)
          (λ place. succeeds ReadTemplate e s 0 s.size (held_at s.held place).template (unchanged k) k.ready))
      on-known Delete e =
          by-test B (not (is_id q.param)) _ _ (λ _. refuse InvalidId refl)
          (λ _. by-test B (eqb (count_of q.param s.held) 0) _ _ (λ _. refuse NotFound refl)
          (λ _. succeeds Delete e (holding s (without q.param s.held) (struck q.param s.admins)) 0 0 []
          (struck-changed k q.param) (free _ _ _)))
      on-known DeleteAll e =
          succeeds DeleteAll e (holding s [] []) 0 0 []
          (record {
            listed = refl;
            level = λ i h. never h;
            settings = k.settings;
            rows = λ i h. refl;
            ten = λ i. omega arith;
            room = omega arith;
          })
          (free _ _ _)
      on-known ListTemplates e =
          by-test B (not (eqb q.size 0) && leb (length s.held) (q.param * q.size)) _ _ (λ _. refuse InvalidId refl)
          (λ _. succeeds ListTemplates e s _ _ _ (unchanged k) k.ready)
      on-known Cancel e = refuse NotFound refl
      on-known WriteLevel e =
          given-some B (level_in q.flag) _ _ (refuse Unsupported refl) (λ l z.
          by-test B (not (is_id q.param)) _ _ (λ _. refuse InvalidId refl) (λ _.
          by-test B (eqb (count_of q.param s.held) 0) _ _ (λ _. refuse NotFound refl)
          (λ m. on-levelled e l z (has_there q.param s.held m))))
      on-known EnrollByAdministrator e =
          on-enroll Administrator (not (any_admin may_enroll s.admins)) (templates_in s.settings.enroll)
          (λ x. wait_for s q (grant_to_enroll x)) (few s.settings.enroll) (λ x _ r. waits (grant_to_enroll x) r)
      on-known DeleteByAdministrator e =
          by-given B (range_of q.param) _ _ (refuse InvalidId refl) (λ range.
          by-test B (not (any_admin may_delete s.admins)) _ _ (λ _. refuse Unsupported refl) (λ _. waits (grant_to_delete range) tt))
      on-known Unlock e =
          by-test B (not (eqb q.size 18)) _ _ (λ _. refuse Unsupported refl) (λ _.
          by-test B (not (sum_right 0 q.«data»)) _ _ (λ _. refuse TryAgain refl) (λ _.
          by-test B (bytes_eq (password_at 0 q.«data») s.password) _ _
          (λ _. succeeds Unlock e (locking s false) 0 0 [] (unchanged k) k.ready) (λ _. refuse NotMatch refl)))
      on-known Lock e = succeeds Lock e (locking s true) 0 0 [] (unchanged k) k.ready
      on-known ChangePassword e =
          by-test B (not (eqb q.size 36)) _ _ (λ _. refuse Unsupported refl) (λ _.
          by-test B (not (sum_right 0 q.«data» && sum_right 18 q.«data»)) _ _ (λ _. refuse TryAgain refl) (λ _.
          by-test B (bytes_eq (password_at 0 q.«data») s.password) _ _
          (λ _. succeeds ChangePassword e (guarded s (password_at 18 q.«data»)) 0 0 [] (unchanged k) k.ready) (λ _. refuse NotMatch refl)))

      on-started : (c : Coded Command) → q.command ≡ c → B (started s q c)
      on-started (Known c) e = on-known c e
      on-started (Unknown m) e = refuse Unsupported refl

    on-asked : (x : Option Waiting) → s.waiting ≡ x → B (asked s x q)
    on-asked None e = on-started e q.command refl
    on-asked (Some x) e =
        by-test B (known_among command_number (Cancel ∷ []) q.command) _ _
        (λ c. let j : Kept ((record { of = v; out = (tell x 0 0 Canceled).outcome }) ∷ ts) (awaiting s None) =
        rested (fails k v (tell x 0 0 Canceled).outcome refl) None tt in
        record {
          kept = success-kept (packet_at own n frame) n q Cancel there (is-command Cancel q.command c) q.command 0 0 j.allowed_then
              (unchanged j) tt;
        })
        (λ _. refuse Busy refl)

    on-requested : B (requested s q)
    on-requested =
        by-test B s.locked _ _
        (λ _. by-test B (known_among command_number (Unlock ∷ []) q.command) _ _ (λ _. on-asked s.waiting refl) (λ _. refuse Locked refl))
        (λ _. on-asked s.waiting refl)

  module _ (mine : own ≡ s.own) where
    on-heard : (frame : List ℕ) (r : Result RequestParts Refusal) → read_request s.settings.network s.own frame ≡ r
        → Kept (tells own (packet frame) n v (answered (heard s r)) ts) (next_of s (heard s r))
    on-heard frame (Ok q) e =
        (on-requested frame q (ap (λ o. packet_at o n frame) mine ∙ packet-there s.settings.network s.own n frame q e)).kept
    on-heard frame (Err r) e = k

    on-event : Pending n s.waiting v ts → (e : Event) → Kept (tells own e n v (answered (on_event s e)) ts) (next_of s (on_event s e))
    on-event o (packet frame) = on-heard frame (read_request s.settings.network s.own frame) refl
    on-event o (finger scan quality) = (on-finger s.waiting k.ready o scan quality).kept
    on-event o second = (on-second s.waiting k.ready).kept

pub kept_step : (own n : ℕ) (w : Owner) (ts : List Told) (s : State) → own ≡ s.own → Pending n s.waiting w ts → Kept ts s → (c : Call)
    → Kept (tells own c.event n w (answered (step_of s c)) ts) (next_of s (step_of s c))
kept_step own n w ts s mine o k c =
    let P : Result Step Refusal → Type 0 = λ r. Kept (tells own c.event n w (answered r) ts) (next_of s r) in
    by-test P (ltb (length c.out) 2048) _ _ (λ _. k)
    (λ _. by-test P (ltb (length c.work) 384) _ _ (λ _. k) (λ _. on-event own n w ts s k mine o c.event))

-- a module as it is made
pub kept-start : (agree : List ℕ → List ℕ → ℕ → Bool) (size room own : ℕ) → Kept [] (fresh agree size room own)
kept-start agree size room own = record {
  listed = refl;
  level = λ i. refl;
  settings = refl;
  rows = λ i h. refl;
  ten = λ i. omega arith;
  room = omega arith;
  ready = tt;
  allowed_then = tt;
}

-- each ID is listed at most ten times
pub kept-ten : (ts : List Told) (s : State) → Kept ts s → (id : ℕ) → count_by (λ x. eqb x id) (tally ts).ids ≤ 10
kept-ten ts s k id =
    let e : count_by (λ x. eqb x id) (tally ts).ids ≡ count_of id s.held = ap (count_by (λ x. eqb x id)) k.listed ∙ count-ids id s.held in
    omega (arith, k.ten id)

-- what is listed and what is free make the capacity
pub kept-capacity : (ts : List Told) (s : State) → Kept ts s → length (tally ts).ids + parameter_value s AvailableFinger ≡ s.room
kept-capacity ts s k =
    let e : length (tally ts).ids ≡ length s.held = ap length k.listed ∙ length-map s.held (λ x. x.id) in
    omega (arith, k.room)
