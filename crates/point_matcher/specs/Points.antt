use Rattle.std.specs.Prelude.{ℕ, ◌+◌, ◌-◌, ◌*◌, min, Bool, ◌&&◌, List, [], ◌∷◌, map, length, drop, count_by, nat_le}
use Rattle.std.specs.Prelude.{slice_index, slice_index_or}
use Rattle.std.specs.List.{list_any}
use Rattle.std.specs.Simd.{first_chunks}
use Rattle.point_matcher.specs.declared.point.Point.{Point}
use Rattle.point_matcher.specs.declared.points.Points.{Points}

-- the first byte says how many points there are
abbrev pub point_count : List ℕ → ℕ
point_count bytes = slice_index bytes 0

-- at most 80 points are said, and that byte and three for each point are there
abbrev pub readable : List ℕ → Bool
readable bytes = nat_le (point_count bytes) 80 && nat_le (1 + 3 * point_count bytes) (length bytes)

-- the point that three bytes say
abbrev pub point_of : List ℕ → Point
point_of triple = record { across = slice_index triple 0; up = slice_index triple 1; angle = slice_index triple 2 }

-- the points that were read
abbrev pub points_in : Points → List Point
points_in points = map point_of points.triples.now

-- the points of some bytes, in order: three bytes each, behind the first byte
abbrev pub points_of : List ℕ → List Point
points_of bytes = map point_of (first_chunks 3 (point_count bytes) (drop 1 bytes))

abbrev pub distance : ℕ → ℕ → ℕ
distance a b = (a - b) + (b - a)

-- the shorter way round a circle of 256
abbrev pub circle_distance : ℕ → ℕ → ℕ
circle_distance a b = min (distance a b) (256 - distance a b)

abbrev pub angles_near : ℕ → ℕ → Bool
angles_near a b = nat_le (circle_distance a b) 8

abbrev pub near : Point → Point → Bool
near p q = nat_le (distance p.across q.across) 6 && nat_le (distance p.up q.up) 6 && angles_near p.angle q.angle

-- one of the points is near q
abbrev pub near_some : List Point → Point → Bool
near_some ps q = list_any (λ p. near p q) ps

-- how many points of the scan lie near some stored point
abbrev pub near_count : List ℕ → List ℕ → ℕ
near_count stored scan = count_by (near_some (points_of stored)) (points_of scan)

-- the count from which on the answer is yes, for the strictness 0 to 14; the last one holds beyond
abbrev pub needed : ℕ → ℕ
needed strictness = slice_index_or (6 ∷ 7 ∷ 8 ∷ 9 ∷ 10 ∷ 11 ∷ 12 ∷ 14 ∷ 16 ∷ 18 ∷ 20 ∷ 23 ∷ 26 ∷ 29 ∷ 32 ∷ [])
    strictness 32

abbrev pub point_yes : List ℕ → List ℕ → ℕ → Bool
point_yes stored scan strictness =
    readable stored && readable scan && nat_le (needed strictness) (near_count stored scan)
