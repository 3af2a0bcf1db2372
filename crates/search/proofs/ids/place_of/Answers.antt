use Rattle.std.proofs.Common.{◌≡◌, length, ◌∙◌, arith, refl, rules, tests, sym}
use Rattle.std.proofs.lemmas.Iterator.{YieldsList-from_range}
use Rattle.std.proofs.lemmas.Iterator.Consumers.{nth_from_yields_List, YieldsList-at, YieldsList-from_filter}
use Rattle.std.proofs.lemmas.Iterator.Adapters.{option_map_id}
use Rattle.search.specs.Ids.{is_at, place_of}
use Rattle.search.proofs.Places.{finds-numbered, numbered}
use Rattle.search.proofs.ids.place_of.Goals as goal

pub returns : goal.returns
returns g c =
    let h = g.S.Memory.held c.args.memory.now in
    let value : c.nth.result ≡ place_of c.args.id c.args.number h =
    sym (option_map_id c.nth.result)
    ∙ nth_from_yields_List c.nth.result _ c.args.number c.nth.ensures.ran
    (YieldsList-from_filter _ (is_at c.args.id h)
    (YieldsList-at c.filter.ensures.source (YieldsList-from_range 0 c.count.result (length h) refl (omega (arith, c.count.ensures))))
    c.filter.ensures.closure (λ x b q k. search (rules, tests)))
    ∙ numbered c.args.id h c.args.number in
    record { value = value; finds = finds-numbered h c.args.id c.args.number c.nth.result value }
