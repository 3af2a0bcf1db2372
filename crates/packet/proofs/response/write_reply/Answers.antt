use Rattle.std.proofs.Common.{arith, rules}
use Rattle.packet.specs.Responses.{reply_bytes}
use Rattle.packet.specs.Trips.{ReadAs, sent}
use Rattle.packet.proofs.Trips.{one-read}
use Rattle.packet.proofs.Writes.{written-as}
use Rattle.packet.proofs.response.write_reply.Goals as goal

pub returns-clause-reads : goal.returns-clause-reads
returns-clause-reads c =
    let own = c.args.own in
    let y = c.args.reply in
    λ h. written-as (λ l. ReadAs l (sent own y)) (reply_bytes own y) c.args.out.now c.write.new.out c.write.result
    (search rules) (search rules)
    (one-read own y (record { own-fits = omega arith; param_fits = omega arith; size_fits = omega arith }) h)
