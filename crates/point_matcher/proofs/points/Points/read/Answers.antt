use Rattle.std.proofs.Common.{◌≡◌, ℕ, zero, suc, ◌≤◌, List, ◌∷◌, take, drop, refl, ap, arith}
use Rattle.std.specs.Simd.{first_chunks}
use Rattle.point_matcher.proofs.points.Points.read.Goals as goal

-- the first of many groups are the first groups
fewer_chunks : (k m n : ℕ) (xs : List ℕ) → n ≤ m → take n (first_chunks k m xs) ≡ first_chunks k n xs
fewer_chunks k m zero xs h = refl
fewer_chunks k zero (suc n) xs h = absurd (omega arith)
fewer_chunks k (suc m) (suc n) xs h = ap (λ chunks. take k xs ∷ chunks) (fewer_chunks k m n (drop k xs) (omega arith))

pub returns-clause-points : goal.returns-clause-points
returns-clause-points c = grind (arith, fewer_chunks)
