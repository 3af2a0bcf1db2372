use Rattle.std.proofs.Common.{◌≡◌, Bool, true, ltb, refl, arith}
use Rattle.std.proofs.Math.Bool.{beq}
use Rattle.std.proofs.lemmas.Bool.{and_parts}
use Rattle.std.specs.Cmp.{booleans_Decides}
use Rattle.std.specs.List.{list_all}
use Rattle.matcher.specs.declared.level.SecurityLevel.{SecurityLevel}
use Rattle.matcher.specs.Levels.{levels, rate, strictness_of}
use Rattle.matcher.proofs.level.level_order.Goals as goal

-- a test of the whole list holds at every level
at-each : (f : SecurityLevel → Bool) → list_all f levels ≡ true → (l : SecurityLevel) → f l ≡ true
at-each f all l = grind (arith, and_parts)

abbrev agree : SecurityLevel → SecurityLevel → Bool
agree l m = beq (ltb (strictness_of l) (strictness_of m)) (ltb (rate m) (rate l))

-- one test, computed over the whole table
pub returns-clause-order : goal.returns-clause-order
returns-clause-order c l m = (booleans_Decides _ _).0 (at-each (agree l) (at-each (λ k. list_all (agree k) levels) refl l) m)
