-- The security levels, their rates and their order.
use Rattle.std.specs.Prelude.{◌≡◌, ℕ, ltb, List, [], ◌∷◌, count_by, Option, nat_lt}
use Rattle.codes.specs.Numbers.{case_of}
use Rattle.std.specs.Option.{option_map}
use Rattle.matcher.specs.declared.level.SecurityLevel.{SecurityLevel}
use Rattle.matcher.specs.declared.level.SecurityLevel.TheVariants.{
  OneIn10,
  OneIn100,
  OneIn1k,
  OneIn10k,
  OneIn100k,
  OneIn1M,
  OneIn10M,
  OneIn100M,
  ThreeIn100,
  ThreeIn1k,
  ThreeIn10k,
  ThreeIn100k,
  ThreeIn1M,
  ThreeIn10M,
  ThreeIn100M,
}

-- the number of each level
abbrev pub level_number : SecurityLevel → ℕ
level_number OneIn10 = 0x30
level_number OneIn100 = 0x31
level_number OneIn1k = 0x32
level_number OneIn10k = 0x33
level_number OneIn100k = 0x34
level_number OneIn1M = 0x35
level_number OneIn10M = 0x36
level_number OneIn100M = 0x37
level_number ThreeIn100 = 0x40
level_number ThreeIn1k = 0x41
level_number ThreeIn10k = 0x42
level_number ThreeIn100k = 0x43
level_number ThreeIn1M = 0x44
level_number ThreeIn10M = 0x45
level_number ThreeIn100M = 0x46

abbrev pub levels : List SecurityLevel
levels =
    OneIn10 ∷ OneIn100 ∷ OneIn1k ∷ OneIn10k ∷ OneIn100k ∷ OneIn1M ∷ OneIn10M ∷ OneIn100M ∷ ThreeIn100 ∷ ThreeIn1k ∷
    ThreeIn10k ∷ ThreeIn100k ∷ ThreeIn1M ∷ ThreeIn10M ∷ ThreeIn100M ∷ []

-- the false acceptance rate: how many of a hundred million strangers are taken for somebody
abbrev pub rate : SecurityLevel → ℕ
rate OneIn10 = 10_000_000
rate OneIn100 = 1_000_000
rate OneIn1k = 100_000
rate OneIn10k = 10_000
rate OneIn100k = 1_000
rate OneIn1M = 100
rate OneIn10M = 10
rate OneIn100M = 1
rate ThreeIn100 = 3_000_000
rate ThreeIn1k = 300_000
rate ThreeIn10k = 30_000
rate ThreeIn100k = 3_000
rate ThreeIn1M = 300
rate ThreeIn10M = 30
rate ThreeIn100M = 3

-- the levels are numbered by falling rate, from 0: as many as there are levels with a greater rate
abbrev pub strictness_of : SecurityLevel → ℕ
strictness_of l = count_by (λ m. ltb (rate l) (rate m)) levels

-- the strictness of the level that has a number
abbrev pub strictness_at : ℕ → Option ℕ
strictness_at n = option_map strictness_of (case_of level_number levels n)

-- the stricter of two levels is the one with the lower rate
abbrev pub StricterIsRarer : Type 0
StricterIsRarer = (l m : SecurityLevel) → nat_lt (strictness_of l) (strictness_of m) ≡ nat_lt (rate m) (rate l)
