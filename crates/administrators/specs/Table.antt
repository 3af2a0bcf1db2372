-- The rows of a table.
use Rattle.std.specs.Prelude.{List}
use Rattle.machine.specs.declared.level.AdminRow.{AdminRow}
use Rattle.administrators.specs.declared.table.Administrators.{Administrators}

abbrev pub rows_of : Administrators → List AdminRow
rows_of t = t.rows.items
