-- Lines of an input.
use Rattle.std.specs.Prelude.{ℕ, ◌-◌, cond, ◌&&◌, List, length, take, ◌==◌, nat_lt, slice_index}

-- a line as it was read, without its end, a line feed (10), which the last one may lack
abbrev pub without_end : List ℕ → List ℕ
without_end xs = cond (nat_lt 0 (length xs) && slice_index xs (length xs - 1) == 10) (take (length xs - 1) xs) xs
