use Rattle.std.proofs.Common.{is_some, leb, length, ap, ◌∙◌}
use Rattle.search.specs.Sought.{agrees_in, held_in}
use Rattle.search.proofs.Laws.{some-agrees}
use Rattle.search.proofs.oldest.Search.any_agrees.Goals as goal

pub returns : goal.returns
returns g c =
    let s = c.args.self.now in
    c.is_some.ensures ∙ ap is_some c.oldest.ensures.value
    ∙ some-agrees (agrees_in g.M.Matcher s) (leb g.S.Memory.T (length c.args.work.now)) (held_in g.S.Memory s)
