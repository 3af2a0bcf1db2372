use Rattle.std.proofs.Common.{◌∙◌, true, arith}
use Rattle.device.specs.View.{view}
use Rattle.machine.proofs.Enrolled.{enrolls-one}
use Rattle.machine.specs.Requests.{enroll_now}
use Rattle.packet.specs.Requests.{request_parts}
use Rattle.requests.proofs.Ended.{refused}
use Rattle.requests.proofs.Enrolled.{decides, enrolls, fits}
use Rattle.requests.proofs.enrolling.enroll_template.Goals as goal

pub returns-in_err-enrollment-clause-value : goal.returns-in_err-enrollment-clause-value
returns-in_err-enrollment-clause-value g c =
    let s = view g.M.Matcher g.S.Memory c.args.device.now in
    let q = request_parts c.args.request in
    refused s q _ _ _
    (fits s q _ _ c.if-request-T.false c.T.ensures (c.in_err-enrollment.ensures.value (enroll_now s q)))
    c.from_residual.result c.from_residual.ensures.1

pub returns-then-is_held-clause-value : goal.returns-then-is_held-clause-value
returns-then-is_held-clause-value g c =
    let s = view g.M.Matcher g.S.Memory c.args.device.now in
    let q = request_parts c.args.request in
    fits s q _ _ c.if-request-T.false c.T.ensures
    (decides s q c.in_ok-enrollment.enrollment true (c.if-is_held.ensures.enough (omega arith))
    ∙ c.in_ok-enrollment.ensures.value (enroll_now s q))

pub returns-clause-value : goal.returns-clause-value
returns-clause-value g c =
    let s = view g.M.Matcher g.S.Memory c.args.device.now in
    let q = request_parts c.args.request in
    let e = c.in_ok-enrollment.enrollment in
    let long = c.if-request-T.false ∙ c.T.ensures in
    let new =
    c.enroll_one.ensures.after
    ∙ enrolls-one s.size s.room s.held e.flag e.id c.in_ok-enrollment.ensures.possible.0 q.«data»
    c.in_ok-enrollment.ensures.possible.1 long in
    fits s q _ _ c.if-request-T.false c.T.ensures
    (enrolls s q e c.answer.result _ _ _ c.answer.ensures c.from.ensures c.enroll_one.ensures.room_same new
    (c.if-is_held.ensures.enough (omega arith))
    ∙ c.in_ok-enrollment.ensures.value (enroll_now s q))
