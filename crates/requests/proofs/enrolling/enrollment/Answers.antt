use Rattle.std.proofs.Common.{sym, Some, None}
use Rattle.device.specs.View.{view}
use Rattle.machine.proofs.Enrolled.{tests-passed}
use Rattle.packet.specs.Requests.{request_parts}
use Rattle.requests.proofs.Ended.{refused}
use Rattle.requests.proofs.Tested.{some_there, tests-made}
use Rattle.requests.proofs.enrolling.enrollment.Goals as goal

pub returns-in_err-no_fault-clause-value : goal.returns-in_err-no_fault-clause-value
returns-in_err-no_fault-clause-value g c = λ f.
    let s = view g.M.Matcher g.S.Memory c.args.device.now in
    let q = request_parts c.args.request in
    refused s q f _ _
    (tests-made s q
    (record { id = c.in_ok-id.id; flag = c.in_ok-flag.flag; by = c.args.by }) _ c.args.needed (Some c.in_err-no_fault.field-0.0) f
    (some_there _ _ _ c.in_ok-flag.ensures) (some_there _ _ _ c.in_ok-id.ensures) (sym c.if-is_missing.ensures) c.in_err-no_fault.ensures)
    c.from_residual-in_err-no_fault.result c.from_residual-in_err-no_fault.ensures.1

pub returns-clause-value : goal.returns-clause-value
returns-clause-value g c = λ f.
    let s = view g.M.Matcher g.S.Memory c.args.device.now in
    let q = request_parts c.args.request in
    tests-made s q
    (record { id = c.in_ok-id.id; flag = c.in_ok-flag.flag; by = c.args.by }) _ c.args.needed None f
    (some_there _ _ _ c.in_ok-flag.ensures) (some_there _ _ _ c.in_ok-id.ensures) (sym c.if-is_missing.ensures) c.in_ok-no_fault.ensures

pub returns-clause-possible : goal.returns-clause-possible
returns-clause-possible g c =
    tests-passed (view g.M.Matcher g.S.Memory c.args.device.now) c.in_ok-flag.flag c.args.request.param c.in_ok-id.id c.args.needed
    (some_there _ _ _ c.in_ok-id.ensures) (sym c.in_ok-no_fault.ensures)
