use Rattle.std.proofs.Common.{[], ◌++◌, ap, ◌∙◌, arith}
use Rattle.engine.proofs.Placed.{settled, short-reply, told-bytes, wrote}
use Rattle.packet.specs.Packets.{written, written_count}
use Rattle.packet.specs.Responses.{bytes_in, reply_bytes, reply_form}
use Rattle.std.proofs.lemmas.List.{append-nil, length-append}
use Rattle.engine.proofs.writing.write_two.Goals as goal

pub returns : goal.returns
returns c =
    let own = c.args.own in
    let out = c.args.out.now in
    let one = c.args.first in
    let two = c.args.second in
    let bs = bytes_in (reply_form own one.to) one.outcome [] in
    let cs = bytes_in (reply_form own two.to) two.outcome [] in
    let e =
    ap (λ x. x ++ reply_bytes own c.reply-2.result)
    (told-bytes own one c.reply.result c.reply.ensures.to c.reply.ensures.outcome c.reply.ensures.bare)
    ∙ ap (λ x. bs ++ x) (told-bytes own two c.reply-2.result c.reply-2.ensures.to c.reply-2.ensures.outcome c.reply-2.ensures.bare) in
    let k = settled (bs ++ cs) out _ _ _ (c.write_replies.ensures.count ∙ ap (λ x. written_count x out) e)
    (c.write_replies.ensures.bytes ∙ ap (λ x. written x out) e)
    (omega (
      arith,
      length-append bs cs,
      short-reply (reply_form own one.to) one.outcome [],
      short-reply (reply_form own two.to) two.outcome [],
    ))
    c.unwrap_or.ensures in
    wrote own _ (bs ++ cs) out _ _ (omega arith)
    (record { param_fits = omega arith; size_fits = omega arith }, (record { param_fits = omega arith; size_fits = omega arith }, tt))
    (ap (λ x. bs ++ x) (append-nil cs)) k.0 k.1
