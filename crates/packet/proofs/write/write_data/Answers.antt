use Rattle.std.proofs.Common.{refl, arith}
use Rattle.packet.proofs.Writes.{ended}
use Rattle.packet.proofs.write.write_data.Goals as goal

pub returns-clause-bytes : goal.returns-clause-bytes
returns-clause-bytes c =
    ended c.args.out.now c.args.data.now c.copy_from_slice.new.self _ _ 0x0A refl (omega arith)
    c.copy_from_slice.ensures.after (omega arith)
