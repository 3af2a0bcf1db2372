-- The numbers of the administrators' levels.
use Rattle.std.specs.Prelude.{ℕ, List, [], ◌∷◌}
use Rattle.machine.specs.declared.level.Level.{Level}
use Rattle.machine.specs.declared.level.Level.TheVariants.{Enroll, Delete, All}

abbrev pub admin_level_number : Level → ℕ
admin_level_number Enroll = 1
admin_level_number Delete = 2
admin_level_number All = 3

abbrev pub admin_levels : List Level
admin_levels = Enroll ∷ Delete ∷ All ∷ []
