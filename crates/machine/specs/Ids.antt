-- IDs and ranges in Param.
use Rattle.std.specs.Prelude.{ℕ, ◌/◌, ◌%◌, Bool, cond, ◌&&◌, Some, None, Option, ◌==◌, nat_le}
use Rattle.search.specs.Ids.{within}
use Rattle.search.specs.declared.allowed.IdRange.{IdRange}

-- an ID is a number from 1 to 65,535
abbrev pub is_id : ℕ → Bool
is_id n = within 1 65535 n

-- a range of IDs: 0 is all of them; else the low half of the number is the least one, and the high half the greatest,
-- which may be no less
abbrev pub range_of : ℕ → Option IdRange
range_of n =
    cond (n == 0) (Some (record { least = 1; greatest = 65535 }))
    (cond (nat_le 1 (n % 65536) && nat_le (n % 65536) (n / 65536))
    (Some (record { least = n % 65536; greatest = n / 65536 })) None)
