use Rattle.std.proofs.Common.{length, ◌∙◌, arith, refl, rules, tests}
use Rattle.std.proofs.lemmas.Iterator.{YieldsList-from_range}
use Rattle.std.proofs.lemmas.Iterator.Consumers.{count_from_yields_List, YieldsList-at, YieldsList-from_filter}
use Rattle.search.specs.Ids.{is_at}
use Rattle.search.proofs.Places.{counted}
use Rattle.search.proofs.ids.count_of.Goals as goal

pub returns : goal.returns
returns g c =
    let h = g.S.Memory.held c.args.memory.now in
    count_from_yields_List c.filter.result c.count-2.result c.count-2.ensures.ran
    (YieldsList-from_filter _ (is_at c.args.id h)
    (YieldsList-at c.filter.ensures.source (YieldsList-from_range 0 c.count.result (length h) refl (omega (arith, c.count.ensures))))
    c.filter.ensures.closure (λ x b q k. search (rules, tests)))
    ∙ counted c.args.id h
