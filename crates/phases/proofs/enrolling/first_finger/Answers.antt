use Rattle.std.proofs.Common.{sym, ◌∙◌, arith}
use Rattle.machine.specs.State.Phase.{first_finger}
use Rattle.phases.proofs.enrolling.first_finger.Goals as goal

pub returns-then-is_held : goal.returns-then-is_held
returns-then-is_held g c = λ can.
    c.end.ensures (first_finger c.args.enrollment) (sym c.enroll_command-command.ensures)
    ∙ rw (← c.if-is_held.ensures.enough (omega arith))
