use Rattle.std.proofs.Common.{is_some, sym, refl, ap, ◌∙◌, arith}
use Rattle.machine.specs.State.Phase.{person_to_delete}
use Rattle.phases.proofs.persons.delete.Goals as goal

pub returns-in_default : goal.returns-in_default
returns-in_default g c =
    c.end.ensures (person_to_delete c.args.range) refl ∙ rw (← c.in_default.ensures.enough (omega arith))

pub returns-then-is_some : goal.returns-then-is_some
returns-then-is_some g c =
    let found = c.in-Some.ensures.enough (omega arith) in
    let level = sym c.if-is_some.true ∙ c.is_some.ensures ∙ ap is_some c.level_of.ensures in
    c.end-then-is_some.ensures (person_to_delete c.args.range) refl ∙ rw (← found, ← level)

pub returns : goal.returns
returns g c =
    let found = c.in-Some.ensures.enough (omega arith) in
    let level = sym c.if-is_some.false ∙ c.is_some.ensures ∙ ap is_some c.level_of.ensures in
    c.end-2.ensures (person_to_delete c.args.range) refl
    ∙ rw
    (← found, ← level, c.from.ensures, c.delete_all_of.ensures.room_same, c.delete_all_of.ensures.after, c.strike.ensures)
