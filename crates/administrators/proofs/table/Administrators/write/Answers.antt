use Rattle.std.proofs.Common.{ap, ◌∙◌}
use Rattle.administrators.specs.Apart.{apart}
use Rattle.administrators.specs.Table.{rows_of}
use Rattle.administrators.proofs.Rows.{apart-changed, missing, one_changed, one_more, there}
use Rattle.administrators.proofs.table.Administrators.write.Goals as goal

pub invariant_of-self : goal.invariant_of-self
invariant_of-self c =
    let t = c.args.self.now in
    let s =
    one_changed t c.args.id c.args.level c.in-Some.at c.in-Some.ensures.value c.deref_mut.result.now c.set_level.new.self _
    c.deref_mut.ensures.value c.set_level.ensures in
    record { distinct = ap apart s ∙ apart-changed c.args.id c.args.level (rows_of t) ∙ t.distinct }

pub returns-in-Some-clause-value : goal.returns-in-Some-clause-value
returns-in-Some-clause-value c =
    rw (← there c.args.self.now c.args.id c.args.level c.in-Some.at c.in-Some.ensures.value c.set_level.new.self)

pub returns-in-Some-clause-after : goal.returns-in-Some-clause-after
returns-in-Some-clause-after c =
    let t = c.args.self.now in
    one_changed t c.args.id c.args.level c.in-Some.at c.in-Some.ensures.value c.deref_mut.result.now c.set_level.new.self _
    c.deref_mut.ensures.value c.set_level.ensures
    ∙ rw (← there t c.args.id c.args.level c.in-Some.at c.in-Some.ensures.value c.set_level.new.self)

pub invariant_of-self-in-None : goal.invariant_of-self-in-None
invariant_of-self-in-None c =
    let s = one_more c.args.self.now c.args.id c.args.level c.try_push.result c.try_push.new.self c.in-None.ensures.value
    c.try_push.ensures.variant c.try_push.ensures.ok c.try_push.ensures.err c.try_push.ensures.full in
    record { distinct = s.0 }

pub returns-in-None-clause-value : goal.returns-in-None-clause-value
returns-in-None-clause-value c =
    let t = c.args.self.now in
    let s = one_more t c.args.id c.args.level c.try_push.result c.try_push.new.self c.in-None.ensures.value
    c.try_push.ensures.variant c.try_push.ensures.ok c.try_push.ensures.err c.try_push.ensures.full in
    c.is_ok.ensures.value ∙ rw (← missing t c.args.id c.args.level c.in-None.ensures.value) s.1

pub returns-in-None-clause-after : goal.returns-in-None-clause-after
returns-in-None-clause-after c =
    let t = c.args.self.now in
    let s = one_more t c.args.id c.args.level c.try_push.result c.try_push.new.self c.in-None.ensures.value
    c.try_push.ensures.variant c.try_push.ensures.ok c.try_push.ensures.err c.try_push.ensures.full in
    rw (← missing t c.args.id c.args.level c.in-None.ensures.value) s.2
