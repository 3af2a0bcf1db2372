use Rattle.std.proofs.Common.{◌≤◌, [], length, ap, ◌∙◌, arith}
use Rattle.device.specs.View.{data_in}
use Rattle.engine.proofs.Placed.{around, bare, place, settled, short-data, short-reply, wrote}
use Rattle.packet.specs.Packets.{written, written_count}
use Rattle.packet.specs.Responses.{bytes_in, reply_form}
use Rattle.std.proofs.lemmas.List.{append-nil, take_rest, length-drop}
use Rattle.engine.proofs.writing.write_around.Goals as goal

pub write_data-length-requires : goal.write_data-length-requires
write_data-length-requires g c =
    let m = c.args.memory.now in
    let law = g.met.S.Memory in
    let few = short-data g.S.Memory.T (g.S.Memory.room m) (g.S.Memory.held m) c.args.data law.sized.1 (law.within m).0
    (law.within m).1 (law.sound m) in
    let p = place c.args.own c.args.told.to c.args.told.outcome c.in-Some.at c.in-Some.ensures in
    let k = p.low in
    let n = ap length (take_rest c.args.out.now c.in-Some.at) ∙ length-drop c.in-Some.at c.args.out.now in
    omega (arith, few, k, n, c.requires)

pub returns-in-Some : goal.returns-in-Some
returns-in-Some g c =
    let m = c.args.memory.now in
    let law = g.met.S.Memory in
    let own = c.args.own in
    let y = c.args.told in
    let bs = data_in (g.S.Memory.held m) c.args.data in
    let few = short-data g.S.Memory.T (g.S.Memory.room m) (g.S.Memory.held m) c.args.data law.sized.1 (law.within m).0
    (law.within m).1 (law.sound m) in
    let p = place own y.to y.outcome c.in-Some.at c.in-Some.ensures in
    let k = around own y.to y.outcome c.in-Some.at p c.args.out.now c.write_data-length.new.out bs c.write_data-length.result
    (omega (arith, few, p.low, c.requires)) c.write_data-length.ensures.count c.write_data-length.ensures.bytes _ _ _
    c.write_reply_around.ensures.count c.write_reply_around.ensures.bytes c.unwrap_or.ensures in
    wrote own _ (bytes_in (reply_form own y.to) y.outcome bs) c.args.out.now _ _ (omega arith)
    (record { param_fits = omega arith; size_fits = omega arith }, tt)
    (append-nil _) k.0 k.1

pub returns-in-None : goal.returns-in-None
returns-in-None g c =
    let own = c.args.own in
    let y = c.args.told in
    let out = c.args.out.now in
    let bs = data_in (g.S.Memory.held c.args.memory.now) c.args.data in
    let full = bytes_in (reply_form own y.to) y.outcome bs in
    let e = bare own y.to y.outcome [] bs c.in-None.ensures in
    let short : length full ≤ length out = omega (arith, ap length e, short-reply (reply_form own y.to) y.outcome [], c.requires) in
    let k = settled full out _ _ _ (c.write_reply_around-in-None.ensures.count ∙ ap (λ x. written_count x out) e)
    (c.write_reply_around-in-None.ensures.bytes ∙ ap (λ x. written x out) e) short c.unwrap_or-in-None.ensures in
    wrote own _ full out _ _ (omega arith) (record { param_fits = omega arith; size_fits = omega arith }, tt) (append-nil full) k.0 k.1
