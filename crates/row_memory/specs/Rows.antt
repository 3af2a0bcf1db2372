-- Rows of 386 bytes: an ID in two bytes, low byte first, and the 384 bytes of a template.
use Rattle.std.specs.Prelude.{ℕ, ◌+◌, ◌-◌, ◌*◌, ◌/◌, ◌%◌, ◌<◌, min, List, ◌∷◌, map, length, take, drop, slice_index}
use Rattle.std.proofs.Math.Seq.{paste}
use Rattle.std.specs.List.{range_with_len}
use Rattle.memory.specs.Held.{Held, Sound, held_at}

-- how many rows a chip has: as many as fit, and at most 500
abbrev pub capacity_of : List ℕ → ℕ
capacity_of bytes = min 500 (length bytes / 386)

-- the bytes of the row at a place
abbrev pub row_at : List ℕ → ℕ → List ℕ
row_at bytes place = take 386 (drop (place * 386) bytes)

-- the template that a row holds
abbrev pub held_in : List ℕ → Held
held_in row = record { id = slice_index row 0 + slice_index row 1 * 256; template = drop 2 row }

-- what the first rows hold, as many as are counted
abbrev pub rows_in : List ℕ → ℕ → List Held
rows_in bytes count = map (λ place. held_in (row_at bytes place)) (range_with_len 0 count)

-- each counted row holds a template
abbrev pub AllSound : List ℕ → ℕ → Type 0
AllSound bytes count = (place : ℕ) → place < count → Sound 384 (held_at (rows_in bytes count) place)

-- the row of an ID and a template
abbrev pub row_of : ℕ → List ℕ → List ℕ
row_of id template = (id % 256) ∷ (id / 256 % 256) ∷ template

-- the bytes once a row is written at a place
abbrev pub written : List ℕ → ℕ → List ℕ → List ℕ
written bytes place row = paste bytes (place * 386) row 386

-- rows once all but the first have moved down by one
abbrev pub closed_first : List ℕ → List ℕ
closed_first rows = paste rows 0 (drop 386 rows) (length rows - 386)

-- the bytes once the counted rows past a place have moved down by one
abbrev pub closed : List ℕ → ℕ → ℕ → List ℕ
closed bytes count place =
    paste bytes (place * 386) (drop (place * 386 + 386) bytes) (count * 386 - (place * 386 + 386))
