use Rattle.std.proofs.Common.{◌≡◌, ◌+◌, ◌%◌, fold, ◌∙◌, rules}
use Rattle.packet.proofs.Sums.{fold_checksum}
use Rattle.packet.proofs.checksum.checksum.Goals as goal

pub returns : goal.returns
returns c =
    let e : c.fold.result ≡ fold (λ s b. (s + b) % 256) 0 c.args.bytes.now = search rules in
    e ∙ fold_checksum c.args.bytes.now
