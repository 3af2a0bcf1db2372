use Rattle.std.proofs.Common.{[], ◌∷◌, sym, refl, ap, ◌∙◌, arith}
use Rattle.device.specs.View.{view}
use Rattle.machine.proofs.Enrolled.{enrolls-one}
use Rattle.machine.specs.State.Phase.{first_finger}
use Rattle.machine.specs.Waiting.{first}
use Rattle.phases.proofs.Templates.{enrolls, some-template}
use Rattle.phases.specs.Told.{waiting_for}
use Rattle.phases.proofs.enrolling.take_first.Goals as goal

pub returns-in-Once : goal.returns-in-Once
returns-in-Once g c = λ can.
    let d = c.args.device.now in
    let s = view g.M.Matcher g.S.Memory d in
    let e = c.args.enrollment in
    let w = waiting_for d (first_finger e) in
    let scan = c.args.scan.bytes.now in
    let held = c.enroll_one.ensures.after
    ∙ enrolls-one s.size s.room s.held e.flag e.id can.some_id scan
    (omega (arith, some-template s.settings.enroll, can.places)) c.args.scan.long in
    c.succeed.ensures (first_finger e) refl
    ∙ enrolls s w e (scan ∷ []) c.args.scan.quality _ _ c.enroll_one.ensures.room_same held
    ∙ sym (ap (λ mode. first s w e mode scan c.args.scan.quality) c.in-Once.is)
