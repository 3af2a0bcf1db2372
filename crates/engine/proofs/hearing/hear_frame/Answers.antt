use Rattle.std.proofs.Common.{sym}
use Rattle.device.specs.View.{view}
use Rattle.engine.proofs.HeardAs.{framed}
use Rattle.packet.specs.Requests.{request_parts}
use Rattle.promises.proofs.Reading.{reads-data}
use Rattle.engine.proofs.hearing.hear_frame.Goals as goal

pub returns : goal.returns
returns g c = λ ready.
    let v = view g.M.Matcher g.S.Memory c.args.device.now in
    let q = request_parts c.in_ok-request.request in
    let read = sym c.in_ok-request.ensures.value in
    framed v _ c.args.frame.now q c.answer.result read
    (c.answer.ensures.value (reads-data v.settings.network v.own c.args.frame.now q read)) c.answer.ensures.refused
    c.in_ok-request.ensures.back
