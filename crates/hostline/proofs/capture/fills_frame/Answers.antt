use Rattle.std.proofs.Common.{◌∙◌, ap, sym, nat_eq, Some, length}
use Rattle.std.specs.Option.{option_eq}
use Rattle.packet.specs.Requests.{request_bytes, request_parts}
use Rattle.hostline.proofs.Written.{differs}
use Rattle.hostline.proofs.capture.fills_frame.Goals as goal

pub returns-else-eq : goal.returns-else-eq
returns-else-eq c =
    let frame = c.args.frame.now in
    let counts = ap (λ n. option_eq nat_eq n (Some (length frame))) c.write_request.ensures.count in
    let other = sym (c.eq.ensures ∙ counts) ∙ c.if-eq.false in
    let bs = request_bytes (request_parts c.args.request) in
    c.if-eq.false ∙ sym (differs bs c.args.bytes.now frame c.requires other)
