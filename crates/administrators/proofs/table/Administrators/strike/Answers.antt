use Rattle.std.proofs.Common.{ap, ◌∙◌}
use Rattle.administrators.specs.Apart.{apart}
use Rattle.administrators.specs.Table.{rows_of}
use Rattle.administrators.proofs.Rows.{apart-struck, none_struck, one_struck}
use Rattle.administrators.proofs.table.Administrators.strike.Goals as goal

pub invariant_of-self : goal.invariant_of-self
invariant_of-self c =
    let t = c.args.self.now in
    let s =
    c.pop.ensures.rest
    ∙ one_struck t c.args.id c.deref_mut.result.now c.strike.new.rows c.deref_mut.ensures.value c.strike.ensures.after c.strike.auto.rows
    c.if-strike.ensures.value in
    record { distinct = ap apart s ∙ apart-struck c.args.id (rows_of t) t.distinct }

pub returns-then-strike : goal.returns-then-strike
returns-then-strike c =
    c.pop.ensures.rest
    ∙ one_struck c.args.self.now c.args.id c.deref_mut.result.now c.strike.new.rows c.deref_mut.ensures.value c.strike.ensures.after
    c.strike.auto.rows c.if-strike.ensures.value

pub returns-else-strike : goal.returns-else-strike
returns-else-strike c =
    none_struck c.args.self.now c.args.id c.deref_mut.result.now c.strike.new.rows c.deref_mut.ensures.value c.strike.ensures.after
    c.strike.auto.rows c.if-strike.ensures.value
