-- Every security level is the case that its own number gives.
use Rattle.std.proofs.Common.{◌≡◌, Some, refl}
use Rattle.codes.specs.Numbers.{case_of}
use Rattle.matcher.specs.Levels.{level_number, levels}
use Rattle.matcher.specs.declared.level.SecurityLevel.{SecurityLevel}
use Rattle.matcher.specs.declared.level.SecurityLevel.TheVariants as Level

pub level-apart : (c : SecurityLevel) → case_of level_number levels (level_number c) ≡ Some c
level-apart Level.OneIn10 = refl
level-apart Level.OneIn100 = refl
level-apart Level.OneIn1k = refl
level-apart Level.OneIn10k = refl
level-apart Level.OneIn100k = refl
level-apart Level.OneIn1M = refl
level-apart Level.OneIn10M = refl
level-apart Level.OneIn100M = refl
level-apart Level.ThreeIn100 = refl
level-apart Level.ThreeIn1k = refl
level-apart Level.ThreeIn10k = refl
level-apart Level.ThreeIn100k = refl
level-apart Level.ThreeIn1M = refl
level-apart Level.ThreeIn10M = refl
level-apart Level.ThreeIn100M = refl
