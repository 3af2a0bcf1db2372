use Rattle.std.proofs.Common.{true, false}
use Rattle.device.specs.View.{view}
use Rattle.packet.specs.Requests.{request_parts}
use Rattle.requests.proofs.Ended.{refused}
use Rattle.requests.proofs.Sums.{both-right, first-fails, second-fails}
use Rattle.requests.proofs.passwords.change_password.Goals as goal

pub returns-in_err-own-clause-value : goal.returns-in_err-own-clause-value
returns-in_err-own-clause-value g c =
    let s = view g.M.Matcher g.S.Memory c.args.device.now in
    let q = request_parts c.args.request in
    refused s q _ _ _
    (first-fails s q c.if-request.false _ _ c.split_at.ensures.front c.split_at.ensures.back _ c.in_err-own.ensures)
    c.from_residual.result c.from_residual.ensures.1

pub returns-in_err-new-clause-value : goal.returns-in_err-new-clause-value
returns-in_err-new-clause-value g c =
    let s = view g.M.Matcher g.S.Memory c.args.device.now in
    let q = request_parts c.args.request in
    refused s q _ _ _
    (second-fails s q c.if-request.false _ _ c.split_at.ensures.front c.split_at.ensures.back _ c.in_ok-own.ensures _ c.in_err-new.ensures)
    c.from_residual-in_err-new.result c.from_residual-in_err-new.ensures.1

pub returns-then-ne-clause-value : goal.returns-then-ne-clause-value
returns-then-ne-clause-value g c =
    both-right (view g.M.Matcher g.S.Memory c.args.device.now) (request_parts c.args.request) c.if-request.false
    _ _ c.split_at.ensures.front c.split_at.ensures.back _ c.in_ok-own.ensures _ c.in_ok-new.ensures true c.if-ne.ensures

pub returns-clause-value : goal.returns-clause-value
returns-clause-value g c =
    rw c.just.ensures
    (both-right (view g.M.Matcher g.S.Memory c.args.device.now) (request_parts c.args.request) c.if-request.false
    _ _ c.split_at.ensures.front c.split_at.ensures.back _ c.in_ok-own.ensures _ c.in_ok-new.ensures false c.if-ne.ensures)
