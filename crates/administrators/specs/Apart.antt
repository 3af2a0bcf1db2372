-- No ID has two rows.
use Rattle.std.specs.Prelude.{Bool, true, not, ◌&&◌, List, [], ◌∷◌, is_some}
use Rattle.machine.specs.declared.level.AdminRow.{AdminRow}
use Rattle.machine.specs.Administrators.{level_of}

-- no row's ID has another row behind it
abbrev pub apart : List AdminRow → Bool
apart [] = true
apart (r ∷ rows) = not (is_some (level_of r.id rows)) && apart rows
