use Rattle.std.proofs.Common.{◌≡◌, ◌++◌, ap, ◌∙◌, arith}
use Rattle.packet.specs.Numbers.{checksum_of}
use Rattle.packet.proofs.Writes.{closing, summed-parts}
use Rattle.packet.proofs.write.write_closed.Goals as goal

pub returns-clause-bytes : goal.returns-clause-bytes
returns-clause-bytes c =
    let xs = c.args.start.now in
    let ys = c.args.fields.now in
    let front = summed-parts xs ys c.args.out.now c.copy_from_slice.new.self c.copy_from_slice-2.new.self
    c.copy_from_slice.ensures.after c.copy_from_slice-2.ensures.after in
    let sum : c.checksum.result ≡ checksum_of (xs ++ ys) = c.checksum.ensures ∙ ap checksum_of front in
    closing xs ys c.args.out.now _ _ c.checksum.result c.copy_from_slice.ensures.after c.copy_from_slice-2.ensures.after (omega arith) sum
