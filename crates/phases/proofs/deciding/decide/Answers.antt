use Rattle.std.proofs.Common.{length, Ok, ap, arith}
use Rattle.device.specs.View.{view}
use Rattle.phases.proofs.Lent.{left_whole}
use Rattle.phases.proofs.Waits.{spoils}
use Rattle.std.proofs.lemmas.Bool.{le-ltb}
use Rattle.phases.proofs.deciding.decide.Goals as goal

pub returns-in-Packet-clause-value : goal.returns-in-Packet-clause-value
returns-in-Packet-clause-value g c = λ fits.
    let long = le-ltb (length c.args.work.now) 384 (omega (arith, c.in-Some.ensures.cases)) in
    rw (c.in-Packet.is, long) (c.match_awaited.ensures.value tt)

pub returns-in-Ok-clause-value : goal.returns-in-Ok-clause-value
returns-in-Ok-clause-value g c = λ fits.
    let long = le-ltb (length c.args.work.now) 384 (omega (arith, c.in-Some.ensures.cases)) in
    let fit = rw c.in-Finger.is at fits in
    rw (c.in-Finger.is, long, ← c.in-Ok.ensures.0, ← c.in-Ok.ensures.1) (c.match_awaited-in-Ok.ensures.value fit)

pub returns-in-Err-clause-value : goal.returns-in-Err-clause-value
returns-in-Err-clause-value g c = λ fits.
    let s = view g.M.Matcher g.S.Memory c.args.device.now in
    let x = c.in-Finger.scan in
    let long = le-ltb (length c.args.work.now) 384 (omega (arith, c.in-Some.ensures.cases)) in
    rw (c.in-Finger.is, long, c.give_up.ensures)
    (ap Ok (spoils s s.waiting x.bytes.now x.quality c.in-Err.code c.in-Err.ensures))

pub returns-in-Second-clause-value : goal.returns-in-Second-clause-value
returns-in-Second-clause-value g c = λ fits.
    let long = le-ltb (length c.args.work.now) 384 (omega (arith, c.in-Some.ensures.cases)) in
    rw (c.in-Second.is, long) (c.match_awaited-in-Second.ensures.value tt)

pub returns-in-Packet-clause-untouched : goal.returns-in-Packet-clause-untouched
returns-in-Packet-clause-untouched g c =
    left_whole c.match_awaited.result 384 c.args.work.now c.in-Some.work.now _ c.in-Some.ensures.cases.same
    c.match_awaited.ensures.untouched

pub returns-in-Ok-clause-untouched : goal.returns-in-Ok-clause-untouched
returns-in-Ok-clause-untouched g c =
    left_whole c.match_awaited-in-Ok.result 384 c.args.work.now c.in-Some.work.now _ c.in-Some.ensures.cases.same
    c.match_awaited-in-Ok.ensures.untouched

pub returns-in-Second-clause-untouched : goal.returns-in-Second-clause-untouched
returns-in-Second-clause-untouched g c =
    left_whole c.match_awaited-in-Second.result 384 c.args.work.now c.in-Some.work.now _ c.in-Some.ensures.cases.same
    c.match_awaited-in-Second.ensures.untouched
