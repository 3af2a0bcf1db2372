use Rattle.std.proofs.Common.{◌∙◌, rules}
use Rattle.std.proofs.lemmas.Iterator.{YieldsList-from_slice}
use Rattle.std.proofs.lemmas.Iterator.Search.{any_from_yields_List}
use borrow.Author.Tests.{tests}
use Rattle.administrators.specs.Rights.{permits}
use Rattle.administrators.specs.Table.{rows_of}
use Rattle.administrators.proofs.Rows.{any-listed}
use Rattle.administrators.proofs.table.Administrators.any_may.Goals as goal

pub returns : goal.returns
returns c =
    let rows = rows_of c.args.self.now in
    let may = permits c.args.right in
    any_from_yields_List (λ r. may r.level) _ _ _ c.any.ensures.ran (YieldsList-from_slice rows cc) (λ x b q k. search (rules, tests))
    ∙ any-listed may rows
