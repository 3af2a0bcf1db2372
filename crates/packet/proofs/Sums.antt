-- A sum modulo 256, taken byte by byte.
use Rattle.std.proofs.Common.{◌≡◌, ℕ, ◌+◌, ◌%◌, ◌<◌, List, [], ◌∷◌, fold, sum, zero-add, ap, ◌∙◌, arith}
use Rattle.std.proofs.lemmas.List.Sums.{sum_by-cons}
use Rattle.packet.specs.Numbers.{checksum_of}

fold_mod : (a : ℕ) (xs : List ℕ) → a < 256 → fold (λ s b. (s + b) % 256) a xs ≡ (a + sum xs) % 256
fold_mod a [] h = omega arith
fold_mod a (x ∷ xs) h = omega (arith, fold_mod ((a + x) % 256) xs (omega arith), sum_by-cons (λ n. n) x xs)

pub fold_checksum : (xs : List ℕ) → fold (λ s b. (s + b) % 256) 0 xs ≡ checksum_of xs
fold_checksum xs = fold_mod 0 xs (omega arith) ∙ ap (λ n. n % 256) (zero-add (sum xs))
