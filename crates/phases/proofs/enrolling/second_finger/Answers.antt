use Rattle.std.proofs.Common.{take, sym, refl, ◌∙◌}
use Rattle.machine.specs.State.Phase.{second_finger}
use Rattle.phases.proofs.enrolling.second_finger.Goals as goal

pub returns-then-not-agrees : goal.returns-then-not-agrees
returns-then-not-agrees g c = λ can.
    let first = c.args.device.now.first in
    let p = second_finger c.args.enrollment (take g.S.Memory.T first.bytes) first.quality in
    c.end.ensures p (sym c.enroll_command-command.ensures)
    ∙ rw (← c.T-size.ensures, ← c.if-not-agrees.ensures)

pub returns : goal.returns
returns g c = λ can.
    let d = c.args.device.now in
    let p = second_finger c.args.enrollment (take g.S.Memory.T d.first.bytes) d.first.quality in
    let held = c.enroll_scans.ensures.after can.some_id can.places in
    let agree = rw c.T-size.ensures at c.if-not-agrees.ensures in
    c.succeed.ensures p refl ∙ rw (c.enroll_scans.ensures.room_same, held, c.max-best.ensures, ← agree)
