use Rattle.std.proofs.Common.{◌++◌, ◌+◌, Some, arith}
use Rattle.std.proofs.lemmas.Grind.{common_steps}
use Rattle.packet.specs.Responses.{reply_bytes}
use Rattle.packet.specs.Trips.{ReadAs, sent}
use Rattle.packet.proofs.Trips.{two-read}
use Rattle.packet.proofs.Writes.{written-as}
use Rattle.packet.proofs.response.write_replies.Goals as goal

pub returns-clause-reads : goal.returns-clause-reads
returns-clause-reads c =
    let own = c.args.own in
    let y = c.args.first in
    let z = c.args.second in
    λ h k. written-as (λ l. ReadAs l (sent own y ++ sent own z)) (reply_bytes own y ++ reply_bytes own z) c.args.out.now
    c.write_reply-2.new.out
    (Some (c.in_ok-write_reply.field-0 + c.in_ok-behind.behind)) (grind (arith, common_steps)) (grind (arith, common_steps))
    (two-read own y z (record { own-fits = omega arith; param_fits = omega arith; size_fits = omega arith })
    (record { own-fits = omega arith; param_fits = omega arith; size_fits = omega arith }) h k)
