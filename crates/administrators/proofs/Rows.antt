-- The row of an ID: what is read there, changed there and struck there is that ID's, as long as no ID has two rows.
use Rattle.std.proofs.Common.{◌≡◌, ◌↔◌, ℕ, ◌-◌, ◌<◌, Bool, true, false, ◌||◌, eqb, List, [], ◌∷◌, ◌++◌, length, get_or}
use Rattle.std.proofs.Common.{take, drop, set, is_some, Some, None, Option, Result, Ok, Err, is_ok, ltb, cond, sym}
use Rattle.std.proofs.Common.{refl, ap, ◌∙◌, arith}
use Rattle.std.specs.List.{list_any, remove}
use Rattle.std.specs.Result.{IsOk, OnErr, OnOk}
use Rattle.std.proofs.lemmas.Bool.{le-ltb, lt-ltb}
use Rattle.std.proofs.lemmas.List.{length-set, take_at}
use Rattle.std.proofs.lemmas.List.Edits.{length-remove}
use Rattle.std.proofs.lemmas.Bool.{eqb-true}
use Rattle.std.proofs.lemmas.Bool.Decides.{nat_tests}
use Rattle.rows.specs.Rows.{place_of, struck_at, struck as struck_first}
use Rattle.machine.specs.declared.level.AdminRow.{AdminRow}
use Rattle.machine.specs.declared.level.Level.{Level}
use Rattle.machine.specs.Administrators.{any_admin, changed, level_of, struck}
use Rattle.arrayvec.specs.ArrayVec.{ArrayVec, array_vec_len, with_items}
use Rattle.arrayvec.proofs.ArrayVecLemmas.{items-with_items}
use Rattle.administrators.specs.declared.table.Administrators.{Administrators}
use Rattle.administrators.specs.Apart.{apart}
use Rattle.administrators.specs.Table.{rows_of}
use Rattle.administrators.proofs.Places.{by_place}

-- the ID has a row
abbrev pub listed : ℕ → List AdminRow → Bool
listed id rows = is_some (level_of id rows)

module _ (id : ℕ) where
  pub level-found : (d : AdminRow) (at : ℕ) (rows : List AdminRow) → Some at ≡ place_of (λ r. r.id) id rows
      → Some (get_or rows at d).level ≡ level_of id rows
  level-found d =
      by_place (λ r. r.id) id (λ at rows. Some (get_or rows at d).level ≡ level_of id rows) (λ r rows t. rw t) (λ at r rows t e. rw t e)

  pub changed-found : (level : Level) (d : AdminRow) (at : ℕ) (rows : List AdminRow) → Some at ≡ place_of (λ r. r.id) id rows
      → set rows at (record { id = (get_or rows at d).id; level = level }) ≡ changed id level rows
  changed-found level d =
      by_place (λ r. r.id) id (λ at rows. set rows at (record { id = (get_or rows at d).id; level = level }) ≡ changed id level rows)
      (λ r rows t. rw t) (λ at r rows t e. rw t (ap (λ l. r ∷ l) e))

  pub unlisted : (rows : List AdminRow) → None ≡ place_of (λ r. r.id) id rows → None ≡ level_of id rows
  unlisted [] e = refl
  unlisted (r ∷ rows) e = grind (arith, nat_tests, unlisted rows)

  pub struck-none : (rows : List AdminRow) → listed id rows ≡ false → rows ≡ struck id rows
  struck-none [] e = refl
  struck-none (r ∷ rows) e = grind (arith, nat_tests, struck-none rows)

  pub struck-found : (at : ℕ) (rows : List AdminRow) → Some at ≡ place_of (λ r. r.id) id rows → apart rows ≡ true
      → remove rows at ≡ struck id rows
  struck-found =
      by_place (λ r. r.id) id (λ at rows. apart rows ≡ true → remove rows at ≡ struck id rows)
      (λ r rows t a. let e = eqb-true r.id id t in grind (arith, nat_tests, struck-none rows))
      (λ at r rows t e a. grind (arith, nat_tests, e))

  pub found_within : (at : ℕ) (rows : List AdminRow) → Some at ≡ place_of (λ r. r.id) id rows → at < length rows
  found_within = by_place (λ r. r.id) id (λ at rows. at < length rows) (λ r rows t. omega arith) (λ at r rows t l. omega arith)

  -- a row struck or changed, or one more of another ID, and still no ID has two rows
  listed-struck : (other : ℕ) (rows : List AdminRow) → listed other rows ≡ false → listed other (struck id rows) ≡ false
  listed-struck other [] e = refl
  listed-struck other (r ∷ rows) e = grind (arith, nat_tests, listed-struck other rows)

  pub apart-struck : (rows : List AdminRow) → apart rows ≡ true → apart (struck id rows) ≡ true
  apart-struck [] a = refl
  apart-struck (r ∷ rows) a = grind (arith, nat_tests, apart-struck rows, listed-struck r.id rows)

  listed-changed : (level : Level) (other : ℕ) (rows : List AdminRow) → listed other (changed id level rows) ≡ listed other rows
  listed-changed level other [] = refl
  listed-changed level other (r ∷ rows) = grind (arith, nat_tests, listed-changed level other rows)

  pub apart-changed : (level : Level) (rows : List AdminRow) → apart (changed id level rows) ≡ apart rows
  apart-changed level [] = refl
  apart-changed level (r ∷ rows) = grind (arith, nat_tests, apart-changed level rows, listed-changed level r.id rows)

listed-push : (other : ℕ) (row : AdminRow) (rows : List AdminRow) → listed other rows ≡ false → eqb row.id other ≡ false
    → listed other (rows ++ row ∷ []) ≡ false
listed-push other row [] e t = rw t
listed-push other row (r ∷ rows) e t = grind (arith, nat_tests, listed-push other row rows)

pub apart-push : (row : AdminRow) (rows : List AdminRow) → listed row.id rows ≡ false → apart rows ≡ true → apart (rows ++ row ∷ []) ≡ true
apart-push row [] e a = refl
apart-push row (r ∷ rows) e a = grind (arith, nat_tests, apart-push row rows, listed-push r.id row rows)

-- a search for an administrator whose level passes
pub any-listed : (f : Level → Bool) (rows : List AdminRow) → list_any (λ r. f r.level) rows ≡ any_admin f rows
any-listed f [] = refl
any-listed f (r ∷ rows) = ap (λ b. f r.level || b) (any-listed f rows)

-- what a strike and a pop behind it leave, as long as no ID has two rows
module _ (id : ℕ) (rows : List AdminRow) (single : apart rows ≡ true) where
  one_less : (o : Option ℕ) → o ≡ place_of (λ r. r.id) id rows → true ≡ is_some o
      → take (length rows - 1) (struck_at rows o) ≡ struck id rows
  one_less (Some at) e t =
      let n = length-remove rows at (found_within id at rows e) in
      take_at (remove rows at) (take 1 (drop at rows)) (length rows - 1) (omega arith) ∙ struck-found id at rows e single
  one_less None e t = absurd (let z : ◌≡◌ {A = ℕ} 0 1 = cc in omega arith)

  none_less : (o : Option ℕ) → o ≡ place_of (λ r. r.id) id rows → false ≡ is_some o → struck_at rows o ≡ struck id rows
  none_less (Some at) e t = absurd (let z : ◌≡◌ {A = ℕ} 0 1 = cc in omega arith)
  none_less None e t = struck-none id rows (sym (ap is_some (unlisted id rows e)))

  pub strikes : true ≡ is_some (place_of (λ r. r.id) id rows)
      → take (length rows - 1) (struck_first (λ r. r.id) id rows) ≡ struck id rows
  strikes = one_less (place_of (λ r. r.id) id rows) refl

  pub leaves : false ≡ is_some (place_of (λ r. r.id) id rows) → struck_first (λ r. r.id) id rows ≡ struck id rows
  leaves = none_less (place_of (λ r. r.id) id rows) refl

-- what a write of one row, or a row more, leaves
module _ (t : Administrators) (id : ℕ) (level : Level) where
  pub there : (at : ℕ) → Some at ≡ place_of (λ r. r.id) id (rows_of t) → (d : AdminRow) → true ≡ is_some (level_of id (rows_of t))
  there at e d = ap is_some (level-found id d at (rows_of t) e)

  pub one_changed : (at : ℕ) → Some at ≡ place_of (λ r. r.id) id (rows_of t) → (rows : List AdminRow) (r d : AdminRow) → rows ≡ rows_of t
      → r ≡ record { id = (get_or rows at d).id; level = level }
      → (with_items t.rows (set rows at r)).items ≡ changed id level (rows_of t)
  one_changed at e rows r d same k =
      items-with_items t.rows (set rows at r) (length-set rows at r ∙ ap length same)
      ∙ ap (λ xs. set xs at r) same
      ∙ ap (set (rows_of t) at) (k ∙ ap (λ xs. record { id = (get_or xs at d).id; level = level }) same)
      ∙ changed-found id level d at (rows_of t) e

  pub missing : None ≡ place_of (λ r. r.id) id (rows_of t) → false ≡ is_some (level_of id (rows_of t))
  missing e = ap is_some (unlisted id (rows_of t) e)

  -- a row more, where there is room for it
  pub one_more : {E : Type 0} (r : Result (Unit {0}) E) (new : ArrayVec AdminRow) → None ≡ place_of (λ x. x.id) id (rows_of t)
      → (IsOk r ↔ (length (rows_of t) < 16)) → OnOk r (new.items ≡ rows_of t ++ (record { id = id; level = level }) ∷ [])
      → OnErr r (new ≡ t.rows) → OnErr r (length (rows_of t) ≡ 16)
      → (apart new.items ≡ true)
      × (is_ok r ≡ cond (ltb (length (rows_of t)) 16) true false)
      × (new.items ≡ cond (ltb (length (rows_of t)) 16) (rows_of t ++ (record { id = id; level = level }) ∷ []) (rows_of t))
  one_more (Ok u) new e room pushed same full =
      let free : ltb (length (rows_of t)) 16 ≡ true = lt-ltb (length (rows_of t)) 16 (room.0 refl) in
      (ap apart pushed ∙ apart-push (record { id = id; level = level }) (rows_of t) (sym (missing e)) t.distinct, rw free, rw free pushed)
  one_more (Err x) new e room pushed same full =
      let none : ltb (length (rows_of t)) 16 ≡ false = le-ltb (length (rows_of t)) 16 (omega arith) in
      (ap (λ v. apart v.items) same ∙ t.distinct, rw none, rw none (ap (λ v. v.items) same))

-- `slice` is what a strike leaves of the rows that it was lent
module _ (t : Administrators) (id : ℕ) (lent slice : List AdminRow) (same : lent ≡ rows_of t)
    (e : slice ≡ struck_first (λ r. r.id) id lent) (long : length slice ≡ length lent) where
  slice_is : slice ≡ struck_first (λ r. r.id) id (rows_of t)
  slice_is = e ∙ ap (struck_first (λ (r : AdminRow). r.id) id) same

  written : (with_items t.rows slice).items ≡ slice
  written = items-with_items t.rows slice (long ∙ ap length same)

  pub one_struck : true ≡ is_some (place_of (λ r. r.id) id lent)
      → take (array_vec_len (with_items t.rows slice) - 1) (with_items t.rows slice).items ≡ struck id (rows_of t)
  one_struck found =
      ap (λ xs. take (length xs - 1) xs) written
      ∙ ap (λ n. take (n - 1) slice) (long ∙ ap length same)
      ∙ ap (take (length (rows_of t) - 1)) slice_is
      ∙ strikes id (rows_of t) t.distinct (rw same at found)

  pub none_struck : false ≡ is_some (place_of (λ r. r.id) id lent) → (with_items t.rows slice).items ≡ struck id (rows_of t)
  none_struck found = written ∙ slice_is ∙ leaves id (rows_of t) t.distinct (rw same at found)
