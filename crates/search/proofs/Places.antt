-- The places at which an ID's templates stand, one by one, and the law of the one that is found.
use Rattle.std.proofs.Common.{◌≡◌, ℕ, zero, suc, ◌+◌, ◌-◌, ◌<◌, ◌≤◌, Bool, true, false, cond, eqb, List, [], ◌∷◌}
use Rattle.std.proofs.Common.{length, filter, slice_get, take, Some, None, Option, sym, refl, ap, ◌∙◌, subst, ⊎_elim}
use Rattle.std.proofs.Common.{zero-add, arith}
use Rattle.std.specs.List.{range_with_len}
use Rattle.std.proofs.lemmas.Bool.{cases_Bool, eqb-true, lt-ltb, ne_eqb}
use Rattle.std.proofs.lemmas.List.Sums.{sum_by-cons}
use Rattle.memory.specs.Held.{Held, held_at}
use Rattle.search.specs.Ids.{count_of, is_at, place_from, place_of}
use Rattle.search.specs.Laws.{FindsNumbered, IsNumbered}

module _ (id : ℕ) (at : ℕ → Bool) where
  -- the test says of each place, counted from one on, whether the template there has the ID
  abbrev Tests : ℕ → List Held → Type 0
  Tests from h = (k : ℕ) → k < length h → at (from + k) ≡ eqb (held_at h k).id id

  later : (from : ℕ) (e : Held) (h : List Held) → Tests from (e ∷ h) → Tests (from + 1) h
  later from e h t k l = ap at (omega arith) ∙ t (suc k) (omega arith)

  here : (from : ℕ) (e : Held) (h : List Held) → Tests from (e ∷ h) → at from ≡ eqb e.id id
  here from e h t = ap at (omega arith) ∙ t 0 (omega arith)

  counted-from : (from : ℕ) (h : List Held) → Tests from h → length (filter at (range_with_len from (length h))) ≡ count_of id h
  counted-from from [] t = refl
  counted-from from (e ∷ h) t =
      let m = counted-from (from + 1) h (later from e h t) in
      let s = sum_by-cons (λ x. cond {A = ℕ} (eqb x.id id) 1 0) e h in
      ⊎_elim
      (λ (b : eqb e.id id ≡ true). let a = here from e h t ∙ b in rw (a, s, b, m) (omega arith))
      (λ (b : eqb e.id id ≡ false). let a = here from e h t ∙ b in rw (a, s, b, m) (omega arith))
      (cases_Bool (eqb e.id id))

  numbered-from : (from number : ℕ) (h : List Held) → Tests from h
      → slice_get (filter at (range_with_len from (length h))) number ≡ place_from from id number h
  numbered-from from number [] t = refl
  numbered-from from zero (e ∷ h) t =
      ⊎_elim
      (λ (b : eqb e.id id ≡ true). let a = here from e h t ∙ b in rw (a, b))
      (λ (b : eqb e.id id ≡ false). let a = here from e h t ∙ b in rw (a, b) (numbered-from (from + 1) 0 h (later from e h t)))
      (cases_Bool (eqb e.id id))
  numbered-from from (suc n) (e ∷ h) t =
      ⊎_elim
      (λ (b : eqb e.id id ≡ true).
      let a = here from e h t ∙ b in
      let z = ne_eqb (suc n) 0 (omega arith) in
      let m : suc n - 1 ≡ n = omega arith in rw (a, b, z, m) (numbered-from (from + 1) n h (later from e h t)))
      (λ (b : eqb e.id id ≡ false). let a = here from e h t ∙ b in rw (a, b) (numbered-from (from + 1) (suc n) h (later from e h t)))
      (cases_Bool (eqb e.id id))

module _ (id : ℕ) (h : List Held) where
  tests : (k : ℕ) → k < length h → is_at id h (0 + k) ≡ eqb (held_at h k).id id
  tests k l = let t = lt-ltb k (length h) l in rw (zero-add, t)

  pub counted : length (filter (is_at id h) (range_with_len 0 (length h))) ≡ count_of id h
  counted = counted-from id (is_at id h) 0 h tests

  pub numbered : (number : ℕ) → slice_get (filter (is_at id h) (range_with_len 0 (length h))) number ≡ place_of id number h
  numbered number = numbered-from id (is_at id h) 0 number h tests

-- the place that is found, counted from one on, is the one that the law speaks of
module _ (id : ℕ) where
  abbrev Found : ℕ → ℕ → List Held → Option ℕ → Type 0
  Found from number h None = count_of id h ≤ number
  Found from number h (Some p) = (k : ℕ) × ((p ≡ from + k) × IsNumbered h id number k)

  -- one template more in front, which has the ID or not
  behind : (from number all one : ℕ) (e : Held) (h : List Held) (o : Option ℕ) → cond (eqb e.id id) 1 0 ≡ one → all ≡ one + number
      → Found (from + 1) number h o → Found from all (e ∷ h) o
  behind from number all one e h None w a f = omega (arith, sum_by-cons (λ x. cond {A = ℕ} (eqb x.id id) 1 0) e h)
  behind from number all one e h (Some p) w a (k, f) = (
    suc k,
    (
      omega (arith, f.0),
      record {
        inside = omega (arith, f.1.inside);
        id_there = f.1.id_there;
        older = sum_by-cons (λ x. cond {A = ℕ} (eqb x.id id) 1 0) e (take k h) ∙ omega (arith, f.1.older);
      },
    ),
  )

  found-from : (from number : ℕ) (h : List Held) → Found from number h (place_from from id number h)
  found-from from number [] = omega arith
  found-from from number (e ∷ h) = by-test (eqb e.id id) refl number (λ n. found-from (from + 1) n h)
    where
      by-test : (b : Bool) → eqb e.id id ≡ b → (n : ℕ) → ((m : ℕ) → Found (from + 1) m h (place_from (from + 1) id m h))
          → Found from n (e ∷ h) (cond b (cond (eqb n 0) (Some from) (place_from (from + 1) id (n - 1) h)) (place_from (from + 1) id n h))
      by-test false t n f = behind from n n 0 e h _ (rw t refl) (omega arith) (f n)
      by-test true t zero f = (0, (omega arith, record { inside = omega arith; id_there = eqb-true e.id id t; older = refl }))
      by-test true t (suc n) f = let z = ne_eqb (suc n) 0 (omega arith) in
          rw z (behind from (suc n - 1) (suc n) 1 e h _ (rw t refl) (omega arith) (f (suc n - 1)))

pub finds-numbered : (h : List Held) (id number : ℕ) (r : Option ℕ) → r ≡ place_of id number h → FindsNumbered h id number r
finds-numbered h id number r e =
    let P : Option ℕ → Type 0 = λ o. Found id 0 number h o in as-found r (subst P (sym e) (found-from id 0 number h))
  where
    as-found : (o : Option ℕ) → Found id 0 number h o → FindsNumbered h id number o
    as-found None f = f
    as-found (Some p) f =
        let Q : ℕ → Type 0 = λ k. IsNumbered h id number k in let at : f.0 ≡ p = omega (arith, f.1.0) in subst Q at f.1.1
