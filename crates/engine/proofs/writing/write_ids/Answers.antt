use Rattle.std.proofs.Common.{◌≡◌, ◌-◌, ◌*◌, ◌/◌, ◌≤◌, min, ◌++◌, length, take, drop, sym, refl, ap, ◌∙◌, arith}
use Rattle.memory.specs.Held.{block_of, fitting_ids}
use Rattle.memory.proofs.Blocks.{block-length, length-fours}
use Rattle.packet.specs.Numbers.{bytes32}
use Rattle.std.specs.List.{flat_map}
use Rattle.std.proofs.lemmas.List.{length-take-le}
use Rattle.engine.proofs.Blocks.{block_written, same_block}
use Rattle.engine.proofs.writing.write_ids.Goals as goal

pub returns : goal.returns
returns g c =
    let h = g.S.Memory.held c.args.memory.now in
    let law = g.met.S.Memory.within c.args.memory.now in
    let from = c.args.from in
    let out = c.args.out.now in
    let room = c.min-room.result in
    let xs = fitting_ids h from (take room out) in
    let within : room ≤ length out = omega (arith, c.min-room.ensures) in
    let long = length-take-le room out within in
    let n = block-length from c.args.most h in
    let l = length-fours bytes32 (λ _. refl) (block_of from c.args.most h) in
    let k = block-length from (length (take room out) / 4) h in
    let all : min (length (take room out) / 4) (length h - from) ≡ min c.args.most (length h - from) =
    omega (arith, long, n, l, law.0, law.1, c.requires, c.saturating_mul.ensures, c.min-room.ensures) in
    let same : xs ≡ block_of from c.args.most h = same_block from (length (take room out) / 4) c.args.most h all in
    record {
      count = omega (arith, l, ap length same, c.ids_into.ensures.value);
      bytes = ap (λ ys. ys ++ drop room out) c.ids_into.ensures.after
          ∙ block_written xs out room (omega (arith, k, long)) within
          ∙ ap (λ ys. flat_map bytes32 ys ++ drop (4 * length xs) out) same
          ∙ ap (λ m. flat_map bytes32 (block_of from c.args.most h) ++ drop (4 * m) out) (sym c.ids_into.ensures.value);
    }
