use Rattle.std.proofs.Common.{arith}
use Rattle.packet.proofs.Standing.{room-around}
use Rattle.packet.proofs.around.write_around.Goals as goal

pub returns-clause-bytes : goal.returns-clause-bytes
returns-clause-bytes c =
    room-around c.args.head c.args.out.now c.write_head.new.out c.args.length c.in_ok-end.end (omega arith)
    (omega arith) c.write_head.ensures.bytes
