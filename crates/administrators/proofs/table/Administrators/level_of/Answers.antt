use Rattle.std.proofs.Common.{◌∙◌}
use Rattle.administrators.specs.Table.{rows_of}
use Rattle.administrators.proofs.Rows.{level-found, unlisted}
use Rattle.administrators.proofs.table.Administrators.level_of.Goals as goal

pub returns-in_err-at : goal.returns-in_err-at
returns-in_err-at c = c.from_residual.ensures ∙ unlisted c.args.id (rows_of c.args.self.now) c.in_err-at.ensures.value

pub returns : goal.returns
returns c = rw c.deref.ensures.0 (level-found c.args.id _ c.in_ok-at.at (rows_of c.args.self.now) c.in_ok-at.ensures.value)
