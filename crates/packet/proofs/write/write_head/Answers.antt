use Rattle.std.proofs.Common.{[], ◌∷◌, get_or, rules}
use Rattle.packet.specs.declared.form.Form.TheVariants.{Network}
use Rattle.packet.proofs.Writes.{headed}
use Rattle.packet.proofs.write.write_head.Goals as goal

pub returns-in-Network-clause-bytes : goal.returns-in-Network-clause-bytes
returns-in-Network-clause-bytes c =
    headed c.args.head (Network c.in-Network.terminal)
    (0x41 ∷ get_or c.to_le_bytes.result 0 0 ∷ get_or c.to_le_bytes.result 1 0 ∷ []) _ c.args.out.now
    c.write_closed-in-Network.new.out c.in-Network.is
    (search rules) c.field_bytes-fields.ensures c.write_closed-in-Network.ensures.bytes
