use Rattle.std.proofs.Common.{drop, length, sym, refl, ap, ◌∙◌}
use Rattle.machine.specs.State.Phase.{first_finger}
use Rattle.std.proofs.lemmas.List.{take_at}
use Rattle.phases.proofs.enrolling.keep_first.Goals as goal

pub returns : goal.returns
returns g c =
    let copied = c.copy_from_slice.ensures.after in
    let behind = drop (length c.args.scan.bytes.now) c.args.device.now.first.bytes in
    let long = ap length copied ∙ c.args.scan.long in
    let whole = take_at c.copy_from_slice.new.self behind g.S.Memory.T long ∙ copied in
    c.go_on.ensures (first_finger c.args.enrollment) _ (sym c.enroll_command-command.ensures) refl ∙ rw whole
