-- Held templates and administrators' rows, against the tally's list of IDs.
use Rattle.std.proofs.Common.{◌≡◌, ℕ, suc, ◌+◌, ◌-◌, ◌<◌, ◌≤◌, Bool, true, false, cond, not, ◌&&◌, ◌||◌, eqb, ltb, List}
use Rattle.std.proofs.Common.{[], ◌∷◌, ◌++◌, map, length, replicate, is_some, Some, None, count_by, Option, sym, refl}
use Rattle.std.proofs.Common.{ap, ◌∙◌, arith}
use Rattle.codes.specs.Flags.{flag_number}
use Rattle.codes.specs.Numbers.{case_of}
use Rattle.codes.specs.declared.flag.EnrollFlag.{EnrollFlag}
use Rattle.codes.specs.declared.flag.EnrollFlag.TheVariants.{Replace, CheckId, AddNew, AutoId, CheckFinger}
use Rattle.memory.specs.Held.{Held}
use Rattle.search.proofs.Laws.{lowest-free}
use Rattle.search.specs.Ids.{count_of, lowest_free}
use Rattle.search.specs.Oldest.{oldest_from, passes}
use Rattle.std.proofs.lemmas.List.Sums.{sum_by-cons, sum_by-append}
use Rattle.std.proofs.lemmas.Bool.Decides.{nat_tests}
use Rattle.machine.proofs.Enrolled.{Passed, length-without, passed, tests-passed}
use Rattle.machine.specs.Administrators.{changed, level_of, struck}
use Rattle.machine.specs.Enrollment.{adds, enroll_fault, enroll_id, needs_none, staying}
use Rattle.machine.specs.Searches.{without}
use Rattle.machine.specs.State.{State}
use Rattle.machine.specs.declared.level.AdminRow.{AdminRow}
use Rattle.machine.specs.declared.level.Level.{Level}
use Rattle.promises.specs.Record.{has, strike}
use Rattle.promises.proofs.Ways.{never}

-- the IDs of held templates
abbrev pub ids : List Held → List ℕ
ids h = map (λ e. e.id) h

-- new templates of an ID
abbrev pub under : ℕ → List (List ℕ) → List Held
under id templates = map (λ t. record { id = id; template = t }) templates

via : (x id i : ℕ) → eqb x id ≡ true → eqb id i ≡ false → eqb x i ≡ false
via x id i p q = grind (arith, nat_tests)

pub is-it : (a b : ℕ) → eqb a b ≡ true → a ≡ b
is-it a b h = grind (arith, nat_tests)

pub either_way : {P : Type 0} (b : Bool) → (b ≡ true → P) → (b ≡ false → P) → P
either_way true p q = p refl
either_way false p q = q refl

pub clash : {A : Type 0} {b : Bool} → b ≡ false → b ≡ true → A
clash p q = never (sym p ∙ q)

pub ids-without : (id : ℕ) (h : List Held) → ids (without id h) ≡ strike id (ids h)
ids-without id [] = refl
ids-without id (e ∷ h) = at (eqb e.id id) (ids-without id h)
  where
    at : (b : Bool) → ids (without id h) ≡ strike id (ids h)
        → ids (cond b (without id h) (e ∷ without id h)) ≡ cond b (strike id (ids h)) (e.id ∷ strike id (ids h))
    at true r = r
    at false r = ap (λ l. e.id ∷ l) r

pub has-struck : (id : ℕ) (xs : List ℕ) → has id (strike id xs) ≡ false
has-struck id [] = refl
has-struck id (x ∷ xs) = at (eqb x id) refl (has-struck id xs)
  where
    at : (b : Bool) → eqb x id ≡ b → has id (strike id xs) ≡ false → has id (cond b (strike id xs) (x ∷ strike id xs)) ≡ false
    at true e h = h
    at false e h = ap (λ v. v || has id (strike id xs)) e ∙ h

pub has_kept : (id i : ℕ) → eqb id i ≡ false → (xs : List ℕ) → has i (strike id xs) ≡ has i xs
has_kept id i n [] = refl
has_kept id i n (x ∷ xs) = at (eqb x id) refl (has_kept id i n xs)
  where
    at : (b : Bool) → eqb x id ≡ b → has i (strike id xs) ≡ has i xs
        → has i (cond b (strike id xs) (x ∷ strike id xs)) ≡ (eqb x i || has i xs)
    at true e h = h ∙ ap (λ v. v || has i xs) (sym (via x id i e n))
    at false e h = ap (λ v. eqb x i || v) h

-- neither among the first nor among the others
pub has-neither : (i : ℕ) (xs ys : List ℕ) → has i (xs ++ ys) ≡ false → (has i xs ≡ false) × (has i ys ≡ false)
has-neither i [] ys h = (refl, h)
has-neither i (x ∷ xs) ys h = at (eqb x i) h (has-neither i xs ys)
  where
    at : (b : Bool) → (b || has i (xs ++ ys)) ≡ false → (has i (xs ++ ys) ≡ false → (has i xs ≡ false) × (has i ys ≡ false))
        → ((b || has i xs) ≡ false) × (has i ys ≡ false)
    at true h f = clash h refl
    at false h f = f h

pub not_first : (i x : ℕ) (xs : List ℕ) → has i (x ∷ xs) ≡ false → eqb x i ≡ false
not_first i x xs h = at (eqb x i) h
  where
    at : (b : Bool) → (b || has i xs) ≡ false → b ≡ false
    at true h = h
    at false h = refl

pub ids-under : (id : ℕ) (templates : List (List ℕ)) → ids (under id templates) ≡ replicate (length templates) id
ids-under id [] = refl
ids-under id (t ∷ ts) = ap (λ l. id ∷ l) (ids-under id ts)

-- the counts
pub count-cons : (i : ℕ) (e : Held) (h : List Held) → count_of i (e ∷ h) ≡ cond (eqb e.id i) 1 0 + count_of i h
count-cons i e h = sum_by-cons (λ x. cond {A = ℕ} (eqb x.id i) 1 0) e h

pub count-append : (i : ℕ) (g h : List Held) → count_of i (g ++ h) ≡ count_of i g + count_of i h
count-append i g h = sum_by-append (λ x. cond {A = ℕ} (eqb x.id i) 1 0) g h

pub count-without : (id i : ℕ) (h : List Held) → count_of i (without id h) ≤ count_of i h
count-without id i [] = omega arith
count-without id i (e ∷ h) = at (eqb e.id id) (count-without id i h)
  where
    at : (b : Bool) → count_of i (without id h) ≤ count_of i h → count_of i (cond b (without id h) (e ∷ without id h)) ≤ count_of i (e ∷ h)
    at true r = omega (arith, count-cons i e h)
    at false r = omega (arith, count-cons i e h, count-cons i e (without id h))

pub count-gone : (id : ℕ) (h : List Held) → count_of id (without id h) ≡ 0
count-gone id [] = refl
count-gone id (e ∷ h) = at (eqb e.id id) refl (count-gone id h)
  where
    at : (b : Bool) → eqb e.id id ≡ b → count_of id (without id h) ≡ 0 → count_of id (cond b (without id h) (e ∷ without id h)) ≡ 0
    at true q r = r
    at false q r = let z : cond {A = ℕ} (eqb e.id id) 1 0 ≡ 0 = ap (λ v. cond {A = ℕ} v 1 0) q in
        omega (arith, count-cons id e (without id h))

pub count_under : (id i : ℕ) (templates : List (List ℕ)) → count_of i (under id templates) ≡ cond (eqb id i) (length templates) 0
count_under id i [] = at (eqb id i)
  where
    at : (b : Bool) → 0 ≡ cond {A = ℕ} b 0 0
    at true = refl
    at false = refl
count_under id i (t ∷ ts) = count-cons i (record { id = id; template = t }) (under id ts) ∙ at (eqb id i) (count_under id i ts)
  where
    at : (b : Bool) → count_of i (under id ts) ≡ cond b (length ts) 0
        → cond {A = ℕ} b 1 0 + count_of i (under id ts) ≡ cond b (suc (length ts)) 0
    at true r = omega arith
    at false r = omega arith

-- an ID that has templates is listed
pub has_there : (i : ℕ) (h : List Held) → eqb (count_of i h) 0 ≡ false → has i (ids h) ≡ true
has_there i [] n = clash n refl
has_there i (e ∷ h) n = at (eqb e.id i) refl (has_there i h)
  where
    at : (b : Bool) → eqb e.id i ≡ b → (eqb (count_of i h) 0 ≡ false → has i (ids h) ≡ true) → (b || has i (ids h)) ≡ true
    at true q f = refl
    at false q f =
        let z : cond {A = ℕ} (eqb e.id i) 1 0 ≡ 0 = ap (λ v. cond {A = ℕ} v 1 0) q in
        let y : count_of i h ≡ count_of i (e ∷ h) = omega (arith, count-cons i e h) in
        f (ap (λ c. eqb c 0) y ∙ n)

-- the rows
pub level-struck : (id : ℕ) (rows : List AdminRow) → level_of id (struck id rows) ≡ None
level-struck id [] = refl
level-struck id (r ∷ rows) = at (eqb r.id id) refl (level-struck id rows)
  where
    at : (b : Bool) → eqb r.id id ≡ b → level_of id (struck id rows) ≡ None
        → level_of id (cond b (struck id rows) (r ∷ struck id rows)) ≡ None
    at true e h = h
    at false e h = ap (λ v. cond v (Some r.level) (level_of id (struck id rows))) e ∙ h

pub level-kept : (id i : ℕ) → eqb id i ≡ false → (rows : List AdminRow) → level_of i (struck id rows) ≡ level_of i rows
level-kept id i n [] = refl
level-kept id i n (r ∷ rows) = at (eqb r.id id) refl (level-kept id i n rows)
  where
    at : (b : Bool) → eqb r.id id ≡ b → level_of i (struck id rows) ≡ level_of i rows
        → level_of i (cond b (struck id rows) (r ∷ struck id rows)) ≡ cond (eqb r.id i) (Some r.level) (level_of i rows)
    at true e h = h ∙ ap (λ v. cond v (Some r.level) (level_of i rows)) (sym (via r.id id i e n))
    at false e h = ap (λ v. cond (eqb r.id i) (Some r.level) v) h

pub level-changed : (id : ℕ) (level : Level) (rows : List AdminRow) → is_some (level_of id rows) ≡ true
    → level_of id (changed id level rows) ≡ Some level
level-changed id level [] h = never h
level-changed id level (r ∷ rows) h = at (eqb r.id id) refl h (level-changed id level rows)
  where
    at : (b : Bool) → eqb r.id id ≡ b → is_some (cond b (Some r.level) (level_of id rows)) ≡ true
        → (is_some (level_of id rows) ≡ true → level_of id (changed id level rows) ≡ Some level)
        → level_of id (cond b ((record { id = r.id; level = level }) ∷ rows) (r ∷ changed id level rows)) ≡ Some level
    at true e h f = ap (λ v. cond v (Some level) (level_of id rows)) e
    at false e h f = ap (λ v. cond v (Some r.level) (level_of id (changed id level rows))) e ∙ f h

pub level-changed-kept : (id i : ℕ) → eqb id i ≡ false → (level : Level) (rows : List AdminRow)
    → level_of i (changed id level rows) ≡ level_of i rows
level-changed-kept id i n level [] = refl
level-changed-kept id i n level (r ∷ rows) = at (eqb r.id id) refl (level-changed-kept id i n level rows)
  where
    at : (b : Bool) → eqb r.id id ≡ b → level_of i (changed id level rows) ≡ level_of i rows
        → level_of i (cond b ((record { id = r.id; level = level }) ∷ rows) (r ∷ changed id level rows))
        ≡ cond (eqb r.id i) (Some r.level) (level_of i rows)
    at true e h = ap (λ v. cond v (Some level) (level_of i rows)) (via r.id id i e n)
        ∙ sym (ap (λ v. cond v (Some r.level) (level_of i rows)) (via r.id id i e n))
    at false e h = ap (λ v. cond (eqb r.id i) (Some r.level) v) h

same-eqb : (a : ℕ) → eqb a a ≡ true
same-eqb a = grind (arith, nat_tests)

pub level-pushed : (id : ℕ) (level : Level) (rows : List AdminRow) → is_some (level_of id rows) ≡ false
    → level_of id (rows ++ (record { id = id; level = level }) ∷ []) ≡ Some level
level-pushed id level [] h = ap (λ v. cond v (Some level) None) (same-eqb id)
level-pushed id level (r ∷ rows) h = at (eqb r.id id) h (level-pushed id level rows)
  where
    at : (b : Bool) → is_some (cond b (Some r.level) (level_of id rows)) ≡ false
        → (is_some (level_of id rows) ≡ false → level_of id (rows ++ (record { id = id; level = level }) ∷ []) ≡ Some level)
        → cond b (Some r.level) (level_of id (rows ++ (record { id = id; level = level }) ∷ [])) ≡ Some level
    at true h f = clash h refl
    at false h f = f h

pub level-pushed-kept : (id i : ℕ) → eqb id i ≡ false → (level : Level) (rows : List AdminRow)
    → level_of i (rows ++ (record { id = id; level = level }) ∷ []) ≡ level_of i rows
level-pushed-kept id i n level [] = ap (λ v. cond v (Some level) None) n
level-pushed-kept id i n level (r ∷ rows) = ap (λ v. cond (eqb r.id i) (Some r.level) v) (level-pushed-kept id i n level rows)

-- the number that a case was found for is its own
pub case-number : {C : Type 0} (number_of : C → ℕ) (cs : List C) (n : ℕ) (c : C) → case_of number_of cs n ≡ Some c → n ≡ number_of c
case-number number_of [] n c e = absurd (let z : ◌≡◌ {A = ℕ} 0 1 = cc in omega arith)
case-number number_of (d ∷ ds) n c e = at (eqb n (number_of d)) refl e (case-number number_of ds n c)
  where
    at : (b : Bool) → eqb n (number_of d) ≡ b → cond b (Some d) (case_of number_of ds n) ≡ Some c
        → (case_of number_of ds n ≡ Some c → n ≡ number_of c) → n ≡ number_of c
    at true q e f = let z : d ≡ c = cc in is-it n (number_of d) q ∙ ap number_of z
    at false q e f = f e

-- who is found is one of those allowed
abbrev pub Allowed : (ℕ → Bool) → Option (ℕ × ℕ) → Type 0
Allowed ok None = Unit {0}
Allowed ok (Some x) = ok x.0 ≡ true

pub found-allowed : (ok : ℕ → Bool) (agree : List ℕ → Bool) (older h : List Held) → Allowed ok (oldest_from (passes ok agree) older h)
found-allowed ok agree older [] = tt
found-allowed ok agree older (e ∷ h) = at (ok e.id) refl (agree e.template) (found-allowed ok agree (older ++ e ∷ []) h)
  where
    at : (a : Bool) → ok e.id ≡ a → (b : Bool) → Allowed ok (oldest_from (passes ok agree) (older ++ e ∷ []) h)
        → Allowed ok (cond (a && b) (Some (e.id, count_of e.id older)) (oldest_from (passes ok agree) (older ++ e ∷ []) h))
    at true q true r = q
    at true q false r = r
    at false q b r = r

-- there is room for so many new templates of an ID
pub record Fits (room : ℕ) (h : List Held) (flag : EnrollFlag) (id needed : ℕ) : Type 0 where
  pub some_id : 0 < id
  pub free : needed ≤ room - length h
  pub ten : count_of id (staying flag id h) + needed ≤ 10

-- what stays beside the new templates
pub record Stay (h : List Held) (flag : EnrollFlag) (id : ℕ) : Type 0 where
  pub listed : ids (staying flag id h) ≡ cond (eqb (flag_number flag) 0) (strike id (ids h)) (ids h)
  pub shorter : length (staying flag id h) ≤ length h
  pub fewer : (i : ℕ) → count_of i (staying flag id h) ≤ count_of i h
  pub others : (i : ℕ) → eqb id i ≡ false → has i (ids (staying flag id h)) ≡ has i (ids h)

all_stay : (h : List Held) (flag : EnrollFlag) (id : ℕ) → staying flag id h ≡ h → eqb (flag_number flag) 0 ≡ false → Stay h flag id
all_stay h flag id e f = record {
  listed = ap ids e ∙ sym (ap (λ b. cond b (strike id (ids h)) (ids h)) f);
  shorter = (let z : length (staying flag id h) ≡ length h = ap length e in omega arith);
  fewer = λ i. (let z : count_of i (staying flag id h) ≡ count_of i h = ap (count_of i) e in omega arith);
  others = λ i q. ap (λ l. has i (ids l)) e;
}

pub stay : (h : List Held) (flag : EnrollFlag) (id : ℕ) → Stay h flag id
stay h Replace id = record {
  listed = ids-without id h;
  shorter = length-without id h;
  fewer = λ i. count-without id i h;
  others = λ i q. ap (has i) (ids-without id h) ∙ has_kept id i q (ids h);
}
stay h CheckId id = all_stay h CheckId id refl refl
stay h AddNew id = all_stay h AddNew id refl refl
stay h AutoId id = all_stay h AutoId id refl refl
stay h CheckFinger id = all_stay h CheckFinger id refl refl

-- no test stood in the way
none_yet : (n needed : ℕ) → needed ≤ 2 → n ≡ 0 → n + needed ≤ 10
none_yet n needed l e = omega arith

pub fits : (s : State) (flag : EnrollFlag) (param id needed : ℕ) → needed ≤ 2 → enroll_id s flag param ≡ Some id
    → enroll_fault s flag id needed ≡ None → Fits s.room s.held flag id needed
fits s flag param id needed few i e =
    record {
      some_id = (tests-passed s flag param id needed i e).0;
      free = (tests-passed s flag param id needed i e).1;
      ten = at flag i p;
    }
  where
    p : Passed (needs_none flag && not (eqb (count_of id s.held) 0)) (adds flag && ltb 10 (count_of id s.held + needed))
        (ltb (s.room - length s.held) needed)
    p = passed _ _ _ e

    at : (f : EnrollFlag) → enroll_id s f param ≡ Some id
        → Passed (needs_none f && not (eqb (count_of id s.held) 0)) (adds f && ltb 10 (count_of id s.held + needed))
        (ltb (s.room - length s.held) needed)
        → count_of id (staying f id s.held) + needed ≤ 10
    at Replace i p = none_yet _ needed few (count-gone id s.held)
    at CheckId i p =
        let z : not (eqb (count_of id s.held) 0) ≡ false = p.first in
        none_yet (count_of id s.held) needed few (grind (arith, nat_tests))
    at AddNew i p = let z : ltb 10 (count_of id s.held + needed) ≡ false = p.next in grind (arith, nat_tests)
    at AutoId i p =
        let z : lowest_free s.held ≡ id = cc in
        none_yet (count_of id s.held) needed few (ap (λ x. count_of x s.held) (sym z) ∙ (lowest-free s.held).free)
    at CheckFinger i p = let z : ltb 10 (count_of id s.held + needed) ≡ false = p.next in grind (arith, nat_tests)

-- counted in the list of IDs
pub count-ids : (id : ℕ) (h : List Held) → count_by (λ x. eqb x id) (ids h) ≡ count_of id h
count-ids id [] = refl
count-ids id (e ∷ h) =
    sum_by-cons (λ x. cond {A = ℕ} (eqb x id) 1 0) e.id (ids h) ∙ ap (λ n. cond (eqb e.id id) 1 0 + n) (count-ids id h)
    ∙ sym (count-cons id e h)
