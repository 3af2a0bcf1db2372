-- The first row with a key, and a row that goes behind the others.
use Rattle.std.proofs.Common.{◌≡◌, ℕ, suc, ◌+◌, ◌-◌, true, false, eqb, List, [], ◌∷◌, ◌++◌, length, take, drop, Some}
use Rattle.std.proofs.Common.{option_map, sym, ap, ◌∙◌, add-one, arith}
use borrow.Rule.Slice.PartMut.{put_mid}
use Rattle.std.proofs.lemmas.List.{drop_all, drop-drop, take_rest, length-drop, append-nil, append_assoc}
use Rattle.std.proofs.lemmas.Bool.Decides.{nat_tests}
use Rattle.rows.specs.Rows.{place_of, put_last}

-- one row more in front
module _ {X : Type 0} (key_of : X → ℕ) (key : ℕ) (x : X) (xs : List X) where
  pub place_first : eqb (key_of x) key ≡ true → place_of key_of key (x ∷ xs) ≡ Some 0
  place_first t = grind (arith, nat_tests)

  pub place-later : eqb (key_of x) key ≡ false → place_of key_of key (x ∷ xs) ≡ option_map suc (place_of key_of key xs)
  place-later t = grind (arith, nat_tests)

-- the rows from a place on, turned by one
pub turned : {X : Type 0} (xs w : List X) (at : ℕ)
    → w ≡ drop 1 (take (length xs - at) (drop at xs)) ++ take 1 (take (length xs - at) (drop at xs))
    → put_mid at (length xs - at) xs w ≡ put_last xs at
turned xs w at e =
    let past : drop (length xs - at) (drop at xs) ≡ [] = drop_all (length xs - at) (drop at xs) (simp length-drop (omega arith)) in
    let all : w ≡ drop (at + 1) xs ++ take 1 (drop at xs) =
    e ∙ ap (λ l. drop 1 l ++ take 1 l) (take_rest xs at) ∙ ap (λ l. l ++ take 1 (drop at xs)) (drop-drop 1 at xs) in
    rw (past, append-nil, all, add-one) (sym (append_assoc (take at xs) (drop (suc at) xs) (take 1 (drop at xs))))
