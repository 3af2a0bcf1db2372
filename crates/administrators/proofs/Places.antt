-- A row found by its key.
use Rattle.std.proofs.Common.{◌≡◌, ℕ, suc, true, false, eqb, List, [], ◌∷◌, Some, None, Option, option_map, ◌∙◌, ⊎_elim}
use Rattle.std.proofs.lemmas.Bool.{cases_Bool}
use Rattle.rows.specs.Rows.{place_of}
use Rattle.rows.proofs.Places.{place_first, place-later}

before : (at : ℕ) (o : Option ℕ) → Some at ≡ option_map suc o → (m : ℕ) × (at ≡ suc m) × (Some m ≡ o)
before at None e = absurd (cc)
before at (Some m) e = (m, (cc), (cc))

-- what holds of the first row with a key, and of a row more in front of it, holds wherever that row is found
module _ {X : Type 0} (key_of : X → ℕ) (key : ℕ) (P : ℕ → List X → Type 0)
    (here : (x : X) (xs : List X) → eqb (key_of x) key ≡ true → P 0 (x ∷ xs))
    (later : (at : ℕ) (x : X) (xs : List X) → eqb (key_of x) key ≡ false → P at xs → P (suc at) (x ∷ xs)) where
  pub by_place : (at : ℕ) (xs : List X) → Some at ≡ place_of key_of key xs → P at xs
  by_place at [] e = absurd (cc)
  by_place at (x ∷ xs) e =
      ⊎_elim
      (λ (t : eqb (key_of x) key ≡ true). let q : at ≡ 0 = cc (place_first key_of key x xs t) in rw q (here x xs t))
      (λ (t : eqb (key_of x) key ≡ false).
      let b = before at (place_of key_of key xs) (e ∙ place-later key_of key x xs t) in rw b.1 (later b.0 x xs t (by_place b.0 xs b.2)))
      (cases_Bool (eqb (key_of x) key))
