use Rattle.std.specs.Prelude.{ℕ, List, ◌++◌, take, drop, Some, None, Option, ◌==◌, position}
use Rattle.std.specs.List.{remove}

-- the place of the first row with the key
abbrev pub place_of : {X : Type 0} → (X → ℕ) → ℕ → List X → Option ℕ
place_of key_of key xs = position (λ row. key_of row == key) xs

-- the row at a place goes behind the others, which keep their order
abbrev pub put_last : {X : Type 0} → List X → ℕ → List X
put_last xs at = remove xs at ++ take 1 (drop at xs)

abbrev pub struck_at : {X : Type 0} → List X → Option ℕ → List X
struck_at xs None = xs
struck_at xs (Some at) = put_last xs at

-- the first row with the key is struck
abbrev pub struck : {X : Type 0} → (X → ℕ) → ℕ → List X → List X
struck key_of key xs = struck_at xs (place_of key_of key xs)
