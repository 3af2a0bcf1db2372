use Rattle.std.proofs.Common.{[], ap, ◌∙◌, arith}
use Rattle.engine.proofs.Placed.{settled, short-reply, told-bytes, wrote}
use Rattle.packet.specs.Packets.{written, written_count}
use Rattle.packet.specs.Responses.{bytes_in, reply_form}
use Rattle.std.proofs.lemmas.List.{append-nil}
use Rattle.engine.proofs.writing.write_one.Goals as goal

pub returns : goal.returns
returns c =
    let out = c.args.out.now in
    let form = reply_form c.args.own c.args.told.to in
    let bs = bytes_in form c.args.told.outcome [] in
    let e = told-bytes c.args.own c.args.told c.reply.result c.reply.ensures.to c.reply.ensures.outcome c.reply.ensures.bare in
    let k = settled bs out _ _ _ (c.write_reply.ensures.count ∙ ap (λ x. written_count x out) e)
    (c.write_reply.ensures.bytes ∙ ap (λ x. written x out) e)
    (omega (arith, short-reply form c.args.told.outcome [])) c.unwrap_or.ensures in
    wrote c.args.own _ bs out _ _ (omega arith) (record { param_fits = omega arith; size_fits = omega arith }, tt) (append-nil bs) k.0 k.1
