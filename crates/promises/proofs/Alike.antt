-- Two locked modules answer alike, whatever they are made of.
use Rattle.std.proofs.Common.{◌≡◌, ℕ, Bool, true, false, cond, not, ◌&&◌, ◌||◌, eqb, ltb, List, [], ◌∷◌, ◌++◌, length}
use Rattle.std.proofs.Common.{drop, None, Ok, Err, Option, Result, sym, refl, ap, ◌∙◌, subst}
use Rattle.codes.specs.Commands.{command_number}
use Rattle.codes.specs.declared.code.Code.{Code}
use Rattle.codes.specs.declared.code.Code.TheVariants.{Success, NotMatch, TryAgain, Unsupported, Locked}
use Rattle.codes.specs.declared.command.Command.TheVariants.{Unlock}
use Rattle.codes.specs.declared.refusal.Refusal.{Refusal}
use Rattle.packet.specs.Data.{known_among}
use Rattle.packet.specs.Requests.{RequestParts, read_request}
use Rattle.packet.specs.declared.response.Outcome.{Outcome}
use Rattle.std.specs.Str.{bytes_eq}
use Rattle.machine.specs.Answers.{Step, answer, bytes_of, go, just}
use Rattle.machine.specs.Machine.{Call, Event, asked, heard, next_of, on_event, requested, step_of, work_after, written_by}
use Rattle.machine.specs.Machine.Event.{packet, finger, second}
use Rattle.machine.specs.Requests.{password_at, sum_right, unlock}
use Rattle.machine.specs.State.{State, Waiting, locking}
use Rattle.machine.specs.Waiting.{on_finger, on_second}
use Rattle.promises.specs.Locked.{LockedAlike, LockedIdle, shown_locked, unlocks}
use Rattle.promises.specs.Runs.{Shown, answered, shown}
use Rattle.promises.proofs.Sound.{reached-sound}
use Rattle.promises.proofs.Ways.{at_true, both_ways, never, only-unlock}

-- both are locked and await nothing, and have what a locked module shows in common
pub record Alike (a b : State) : Type 0 where
  pub locked-a : a.locked ≡ true
  pub locked-b : b.locked ≡ true
  pub idle-a : a.waiting ≡ None
  pub idle-b : b.waiting ≡ None
  pub password : a.password ≡ b.password
  pub own : a.own ≡ b.own
  pub network : a.settings.network ≡ b.settings.network

-- two answers to one call: the same outcomes and bytes, and unless they unlock, the modules stay alike
record Twin (a b : State) (x y : Result Step Refusal) : Type 0 where
  answer : answered x ≡ answered y
  bytes : written_by a x ≡ written_by b y
  next : unlocks (answered x) ≡ false → Alike (next_of a x) (next_of b y)

module _ (a b : State) (k : Alike a b) where
  abbrev Steps : Step → Step → Type 0
  Steps x y = Twin a b (Ok x) (Ok y)

  -- an outcome that changes nothing
  twin-just : (q : RequestParts) (code : Code) → Steps (just a q code) (just b q code)
  twin-just q code = record { answer = refl; bytes = ap (λ n. bytes_of n (answer q 0 0 code)) k.own; next = λ _. k }

  -- no outcome
  twin-none : Steps (go a []) (go b [])
  twin-none = record { answer = refl; bytes = refl; next = λ _. k }

  module _ (q : RequestParts) where
    twin-unlocked : known_among command_number (Unlock ∷ []) q.command ≡ true
        → Steps (just (locking a false) q Success) (just (locking b false) q Success)
    twin-unlocked e = record {
      answer = refl;
      bytes = ap (λ n. bytes_of n (answer q 0 0 Success)) k.own;
      next = λ h. never (sym h ∙ ap (λ t. t && true || false) e);
    }

    twin-unlock : known_among command_number (Unlock ∷ []) q.command ≡ true → Steps (unlock a q) (unlock b q)
    twin-unlock e =
        both_ways Steps (not (eqb q.size 18)) _ _ _ _ (λ _. twin-just q Unsupported) (λ _.
        both_ways Steps (not (sum_right 0 q.«data»)) _ _ _ _ (λ _. twin-just q TryAgain) (λ _.
        (let P : Bool → Type 0 = λ t. Steps
        (cond (bytes_eq (password_at 0 q.«data») a.password) (just (locking a false) q Success) (just a q NotMatch))
        (cond t (just (locking b false) q Success) (just b q NotMatch)) in
        subst P (ap (bytes_eq (password_at 0 q.«data»)) k.password)
        (both_ways Steps (bytes_eq (password_at 0 q.«data») a.password) _ _ _ _ (λ _. twin-unlocked e) (λ _. twin-just q NotMatch)))))

    twin-asked : known_among command_number (Unlock ∷ []) q.command ≡ true → Steps (asked a a.waiting q) (asked b b.waiting q)
    twin-asked e =
        let P : Option Waiting → Type 0 = λ w. Steps (asked a w q) (asked b b.waiting q) in
        let Q : Option Waiting → Type 0 = λ w. Steps (asked a None q) (asked b w q) in
        subst P (sym k.idle-a) (subst Q (sym k.idle-b)
        (only-unlock (λ x. Steps x (asked b None q)) a q q.command e
        (only-unlock (λ y. Steps (unlock a q) y) b q q.command e (twin-unlock e))))

    twin-requested : Steps (requested a q) (requested b q)
    twin-requested =
        at_true (λ x. Steps x (requested b q)) a.locked _ _ k.locked-a
        (at_true (λ y. Steps (cond (known_among command_number (Unlock ∷ []) q.command) (asked a a.waiting q) (just a q Locked)) y)
        b.locked _ _ k.locked-b
        (both_ways Steps (known_among command_number (Unlock ∷ []) q.command) _ _ _ _ twin-asked (λ _. twin-just q Locked)))

  twin-refused : (e : Refusal) → Twin a b (Err e) (Err e)
  twin-refused e = record { answer = refl; bytes = refl; next = λ _. k }

  twin-heard : (r : Result RequestParts Refusal) → Twin a b (heard a r) (heard b r)
  twin-heard (Ok q) = twin-requested q
  twin-heard (Err e) = twin-refused e

  twin-event : (e : Event) → Twin a b (on_event a e) (on_event b e)
  twin-event (packet frame) =
      let same : read_request a.settings.network a.own frame ≡ read_request b.settings.network b.own frame =
      ap (λ m. read_request m a.own frame) k.network ∙ ap (λ n. read_request b.settings.network n frame) k.own in
      let P : Result RequestParts Refusal → Type 0 = λ r. Twin a b (heard a (read_request a.settings.network a.own frame)) (heard b r) in
      subst P same (twin-heard (read_request a.settings.network a.own frame))
  twin-event (finger scan quality) =
      let P : Option Waiting → Type 0 = λ w. Steps (on_finger a w scan quality) (on_finger b b.waiting scan quality) in
      let Q : Option Waiting → Type 0 = λ w. Steps (go a []) (on_finger b w scan quality) in
      subst P (sym k.idle-a) (subst Q (sym k.idle-b) twin-none)
  twin-event second =
      let P : Option Waiting → Type 0 = λ w. Steps (on_second a w) (on_second b b.waiting) in
      let Q : Option Waiting → Type 0 = λ w. Steps (go a []) (on_second b w) in
      subst P (sym k.idle-a) (subst Q (sym k.idle-b) twin-none)

  twin-call : (c : Call) → Twin a b (step_of a c) (step_of b c)
  twin-call c =
      both_ways (Twin a b) (ltb (length c.out) 2048) _ _ _ _ (λ _. twin-refused _) (λ _.
      both_ways (Twin a b) (ltb (length c.work) 384) _ _ _ _ (λ _. twin-refused _) (λ _. twin-event c.event))

  same-shown : (c : Call) → shown a c ≡ shown b c
  same-shown c =
      let made : Result (List Outcome) Refusal → List ℕ → Shown =
      λ r w. record { answer = r; count = length w; out = w ++ drop (length w) c.out; work = work_after c } in
      let t = twin-call c in
      ap (λ r. made r (written_by a (step_of a c))) t.answer ∙ ap (made (answered (step_of b c))) t.bytes

alike : (a b : State) → Alike a b → (cs : List Call) → shown_locked a cs ≡ shown_locked b cs
alike a b k [] = refl
alike a b k (c ∷ cs) =
    let t = twin-call a b k c in
    ap (λ x. x ∷ rest a (answered (step_of a c))) (same-shown a b k c)
    ∙ ap (λ l. shown b c ∷ l) (ends (unlocks (answered (step_of a c))) refl
    (λ h. alike (next_of a (step_of a c)) (next_of b (step_of b c)) (t.next h) cs)
    ∙ ap (rest b) t.answer)
  where
    rest : State → Result (List Outcome) Refusal → List Shown
    rest s r = cond (unlocks r) [] (shown_locked (next_of s (step_of s c)) cs)

    ends : (u : Bool) → unlocks (answered (step_of a c)) ≡ u
        → (unlocks (answered (step_of a c)) ≡ false → shown_locked (next_of a (step_of a c)) cs ≡ shown_locked (next_of b (step_of b c)) cs)
        → cond u [] (shown_locked (next_of a (step_of a c)) cs) ≡ cond u [] (shown_locked (next_of b (step_of b c)) cs)
    ends true e more = refl
    ends false e more = more e

pub locked-alike : LockedAlike
locked-alike a b ra rb la lb p o n cs =
    alike a b
    (record {
      locked-a = la;
      locked-b = lb;
      idle-a = reached-sound a ra la;
      idle-b = reached-sound b rb lb;
      password = p;
      own = o;
      network = n;
    })
    cs

pub locked-idle : LockedIdle
locked-idle s r l = reached-sound s r l
