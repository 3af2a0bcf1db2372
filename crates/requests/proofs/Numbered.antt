-- An ID has templates where a template of number 0 is found.
use Rattle.std.proofs.Common.{◌≡◌, ℕ, ◌+◌, true, false, cond, not, eqb, List, [], ◌∷◌, is_some, refl, ⊎_elim, arith}
use Rattle.memory.specs.Held.{Held}
use Rattle.search.specs.Ids.{count_of, place_from, place_of}
use Rattle.std.proofs.lemmas.Bool.{cases_Bool, ne_eqb}
use Rattle.std.proofs.lemmas.List.Sums.{sum_by-cons}

first-from : (place id : ℕ) (h : List Held) → is_some (place_from place id 0 h) ≡ not (eqb (count_of id h) 0)
first-from place id [] = refl
first-from place id (e ∷ h) =
    let s = sum_by-cons (λ x. cond {A = ℕ} (eqb x.id id) 1 0) e h in
    ⊎_elim
    (λ (b : eqb e.id id ≡ true). let n = ne_eqb (1 + count_of id h) 0 (omega arith) in rw (s, b, n))
    (λ (b : eqb e.id id ≡ false). rw b (first-from (place + 1) id h))
    (cases_Bool (eqb e.id id))

pub first_there : (id : ℕ) (h : List Held) → is_some (place_of id 0 h) ≡ not (eqb (count_of id h) 0)
first_there id h = first-from 0 id h
