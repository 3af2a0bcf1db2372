use Rattle.std.proofs.Common.{Some, None, arith}
use Rattle.std.proofs.lemmas.Grind.{common_steps}
use Rattle.search.specs.Oldest.{passes}
use Rattle.search.specs.Sought.{agrees_in, held_in}
use Rattle.search.proofs.Laws.{finds}
use Rattle.search.proofs.oldest.Search.oldest.Goals as goal

pub returns-then-agrees_at-clause-finds : goal.returns-then-agrees_at-clause-finds
returns-then-agrees_at-clause-finds g c = λ _.
    let ok = passes (g.A.Allowed.allowed c.args.allowed.now) (agrees_in g.M.Matcher c.args.self.now) in
    let h = held_in g.S.Memory c.args.self.now in
    finds ok h (Some (c.in_ok-id.id, c.count_in.result)) (grind (arith, common_steps))

pub returns-clause-finds : goal.returns-clause-finds
returns-clause-finds g c = λ _.
    let ok = passes (g.A.Allowed.allowed c.args.allowed.now) (agrees_in g.M.Matcher c.args.self.now) in
    let h = held_in g.S.Memory c.args.self.now in
    finds ok h None (grind (arith, common_steps))
