-- The searches answer what the laws say in words of places and IDs.
use Rattle.std.proofs.Common.{◌≡◌, ℕ, zero, suc, ◌+◌, ◌<◌, ◌≤◌, Bool, true, false, cond, ◌&&◌, ◌||◌, eqb, leb, ◌≢◌, ◌⊎◌}
use Rattle.std.proofs.Common.{List, [], ◌∷◌, ◌++◌, length, is_some, Some, None, Option, sym, refl, ap, ◌∙◌, subst, inl}
use Rattle.std.proofs.Common.{inr, ⊎_elim, arith}
use Rattle.std.proofs.lemmas.List.{append-nil, append_assoc, get_or_at, length-append, length_push, take_at}
use Rattle.std.proofs.lemmas.List.Sums.{sum_by-cons}
use Rattle.std.proofs.lemmas.Bool.{cases_lt, cases_eq, cases_Bool, eqb-true, eqb-false}
use Rattle.std.proofs.lemmas.Bool.Decides.{nat_tests}
use Rattle.memory.specs.Held.{Held, none, held_at}
use Rattle.search.specs.Ids.{count_of, free_from, lowest_free}
use Rattle.search.specs.Laws.{FindsOldest, IsOldest, IsLowestFree}
use Rattle.search.specs.Oldest.{any_of, oldest, oldest_from, passes}

module _ (ok : Held → Bool) where
  -- none of the older templates passes
  abbrev Failed : List Held → List Held → Type 0
  Failed older h = (k : ℕ) → k < length older → ok (held_at h k) ≡ false

  here : (older h : List Held) (e : Held) → held_at (older ++ e ∷ h) (length older) ≡ e
  here older h e = get_or_at older e h none (length older) refl

  failed-more : (older h : List Held) (e : Held) → Failed older (older ++ e ∷ h) → ok e ≡ false → Failed (older ++ e ∷ []) (older ++ e ∷ h)
  failed-more older h e f nay k l =
      ⊎_elim
      (λ (lt : k < length older). f k lt)
      (λ (ge : length older ≤ k).
      let at : k ≡ length older = omega (arith, length_push older e) in
      ap (λ n. ok (held_at (older ++ e ∷ h) n)) at ∙ ap ok (here older h e) ∙ nay)
      (cases_lt k (length older))

  found_here : (older h : List Held) (e : Held) → Failed older (older ++ e ∷ h) → ok e ≡ true
      → IsOldest ok (older ++ e ∷ h) e.id (count_of e.id older)
  found_here older h e f yea = record {
    place = length older;
    inside = omega (arith, length-append older (e ∷ h));
    passing = ap ok (here older h e) ∙ yea;
    id_there = ap (λ x. x.id) (here older h e);
    numbered = ap (count_of e.id) (take_at older (e ∷ h) (length older) refl);
    older = f;
  }

  finds-from : (older h : List Held) → Failed older (older ++ h) → FindsOldest ok (older ++ h) (oldest_from ok older h)
  finds-from older [] f = λ k l. f k (omega (arith, ap length (append-nil older)))
  finds-from older (e ∷ h) f =
      by-test (ok e) refl (λ nay. finds-from (older ++ e ∷ []) h (moved (failed-more older h e f nay)))
    where
      joined : (older ++ e ∷ []) ++ h ≡ older ++ e ∷ h
      joined = append_assoc older (e ∷ []) h

      moved : Failed (older ++ e ∷ []) (older ++ e ∷ h) → Failed (older ++ e ∷ []) ((older ++ e ∷ []) ++ h)
      moved g = let P : List Held → Type 0 = λ l. Failed (older ++ e ∷ []) l in subst P (sym joined) g

      by-test : (b : Bool) → ok e ≡ b
          → (b ≡ false → FindsOldest ok ((older ++ e ∷ []) ++ h) (oldest_from ok (older ++ e ∷ []) h))
          → FindsOldest ok (older ++ e ∷ h) (cond b (Some (e.id, count_of e.id older)) (oldest_from ok (older ++ e ∷ []) h))
      by-test true yea rest = found_here older h e f yea
      by-test false nay rest =
          let P : List Held → Type 0 = λ l. FindsOldest ok l (oldest_from ok (older ++ e ∷ []) h) in subst P joined (rest refl)

  pub finds-oldest : (h : List Held) → FindsOldest ok h (oldest ok h)
  finds-oldest h = finds-from [] h (λ k l. absurd (omega arith))

pub finds : (ok : Held → Bool) (h : List Held) (r : Option (ℕ × ℕ)) → r ≡ oldest ok h → FindsOldest ok h r
finds ok h r e = let P : Option (ℕ × ℕ) → Type 0 = λ x. FindsOldest ok h x in subst P (sym e) (finds-oldest ok h)

-- as many IDs as there are templates can be taken
module _ (h : List Held) where
  free-between : (id n : ℕ) → (id ≤ free_from id n h) × (free_from id n h ≤ id + n)
  free-between id zero = (omega arith, omega arith)
  free-between id (suc n) =
      ⊎_elim
      (λ (t : eqb (count_of id h) 0 ≡ true). rw t (omega arith, omega arith))
      (λ (t : eqb (count_of id h) 0 ≡ false). let m = free-between (id + 1) n in rw t (omega arith, omega arith))
      (cases_Bool (eqb (count_of id h) 0))

  taken-below : (id n k : ℕ) → id ≤ k → k < free_from id n h → count_of k h ≡ 0 → ⊥
  taken-below id zero k l m z = omega arith
  taken-below id (suc n) k l m z =
      ⊎_elim
      (λ (t : eqb (count_of id h) 0 ≡ true). let s : k < id = rw t at m in omega arith)
      (λ (t : eqb (count_of id h) 0 ≡ false).
      let s : k < free_from (id + 1) n h = rw t at m in
      ⊎_elim
      (λ (b : id < k). taken-below (id + 1) n k (omega arith) s z)
      (λ (b : k ≤ id). let e : k ≡ id = omega arith in eqb-false (count_of id h) 0 t (ap (λ i. count_of i h) (sym e) ∙ z))
      (cases_lt id k))
      (cases_Bool (eqb (count_of id h) 0))

  free-or-last : (id n : ℕ) → (count_of (free_from id n h) h ≡ 0) ⊎ (free_from id n h ≡ id + n)
  free-or-last id zero = inr (omega arith)
  free-or-last id (suc n) =
      ⊎_elim
      (λ (t : eqb (count_of id h) 0 ≡ true). inl (rw t (eqb-true (count_of id h) 0 t)))
      (λ (t : eqb (count_of id h) 0 ≡ false).
      ⊎_elim (λ (z : count_of (free_from (id + 1) n h) h ≡ 0). inl (rw t z))
      (λ (e : free_from (id + 1) n h ≡ id + 1 + n). inr (rw t (omega arith))) (free-or-last (id + 1) n))
      (cases_Bool (eqb (count_of id h) 0))

-- the templates of the IDs 1 to m, counted
abbrev spread : ℕ → List Held → ℕ
spread zero h = 0
spread (suc m) h = count_of (suc m) h + spread m h

spread_none : (m : ℕ) → spread m [] ≡ 0
spread_none zero = refl
spread_none (suc m) = omega (arith, spread_none m)

spread-more : (e : Held) (h : List Held) (m : ℕ) → spread m (e ∷ h) ≤ spread m h + cond (leb e.id m) 1 0
spread-more e h zero = omega arith
spread-more e h (suc m) =
    let ih = spread-more e h m in
    let c = sum_by-cons (λ x. cond {A = ℕ} (eqb x.id (suc m)) 1 0) e h in
    grind (arith, nat_tests)

spread-le : (m : ℕ) (h : List Held) → spread m h ≤ length h
spread-le m [] = omega (arith, spread_none m)
spread-le m (e ∷ h) =
    ⊎_elim
    (λ (t : leb e.id m ≡ true). let s : spread m (e ∷ h) ≤ spread m h + 1 = rw t at (spread-more e h m) in omega (arith, spread-le m h))
    (λ (t : leb e.id m ≡ false). let s : spread m (e ∷ h) ≤ spread m h + 0 = rw t at (spread-more e h m) in omega (arith, spread-le m h))
    (cases_Bool (leb e.id m))

spread-ge : (m : ℕ) (h : List Held) → ((k : ℕ) → 1 ≤ k → k ≤ m → count_of k h ≡ 0 → ⊥) → m ≤ spread m h
spread-ge zero h all = omega arith
spread-ge (suc m) h all =
    let rest = spread-ge m h (λ k l r. all k l (omega arith)) in
    let one : 1 ≤ count_of (suc m) h =
    ⊎_elim (λ (e : count_of (suc m) h ≡ 0). absurd (all (suc m) (omega arith) (omega arith) e))
    (λ (ne : count_of (suc m) h ≢ 0). omega arith) (cases_eq (count_of (suc m) h) 0) in
    omega arith

pub lowest-free : (h : List Held) → IsLowestFree h (lowest_free h)
lowest-free h = record {
  some_id = (free-between h 1 (length h)).0;
  free = ⊎_elim (λ (z : count_of (lowest_free h) h ≡ 0). z) (λ (e : lowest_free h ≡ 1 + length h). last e) (free-or-last h 1 (length h));
  lower = λ k l m. taken-below h 1 (length h) k l m;
}
  where
    last : lowest_free h ≡ 1 + length h → count_of (lowest_free h) h ≡ 0
    last e =
        ⊎_elim
        (λ (z : count_of (lowest_free h) h ≡ 0). z)
        (λ (ne : count_of (lowest_free h) h ≢ 0).
        absurd
        (let many = spread-ge (1 + length h) h (λ k l r z. ⊎_elim
        (λ (b : k < lowest_free h). taken-below h 1 (length h) k l b z)
        (λ (b : lowest_free h ≤ k). let at : k ≡ lowest_free h = omega arith in ne (ap (λ i. count_of i h) (sym at) ∙ z))
        (cases_lt k (lowest_free h))) in
        let few = spread-le (1 + length h) h in omega arith))
        (cases_eq (count_of (lowest_free h) h) 0)

pub lowest-within : (h : List Held) → lowest_free h ≤ 1 + length h
lowest-within h = (free-between h 1 (length h)).1

-- something is found among all IDs exactly if some template agrees
module _ (agrees : List ℕ → Bool) where
  found-agrees : (older h : List Held) → is_some (oldest_from (passes (λ _. true) agrees) older h) ≡ any_of (λ e. agrees e.template) h
  found-agrees older [] = refl
  found-agrees older (e ∷ h) = at (agrees e.template) (found-agrees (older ++ e ∷ []) h)
    where
      at : (b : Bool) → is_some (oldest_from (passes (λ _. true) agrees) (older ++ e ∷ []) h) ≡ any_of (λ x. agrees x.template) h
          → is_some (cond b (Some (e.id, count_of e.id older)) (oldest_from (passes (λ _. true) agrees) (older ++ e ∷ []) h))
          ≡ b || any_of (λ x. agrees x.template) h
      at true r = refl
      at false r = r

  pub some-agrees : (room : Bool) (h : List Held)
      → is_some (cond room (oldest (passes (λ _. true) agrees) h) None) ≡ room && any_of (λ e. agrees e.template) h
  some-agrees true h = found-agrees [] h
  some-agrees false h = refl
