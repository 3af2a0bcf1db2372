use Rattle.std.proofs.Common.{◌<◌, vec_items, rules, arith}
use Rattle.std.proofs.lemmas.List.Elements.{All-from_get_or}
use Rattle.digits.proofs.Written.{pair-more, reads-back}
use Rattle.digits.proofs.write_hex.Goals as goal

pub loop-b-preserved : goal.loop-b-preserved
loop-b-preserved c = (
  pair-more _ _ _ _ c.args.bytes.now c.loop-b.b-index _ _ c.loop-b-test.true c.loop-b.invariant.0
      c.push_reserved.ensures.items c.push_reserved-in-loop-b.ensures.items c.digit_of.ensures
      c.digit_of-in-loop-b.ensures,
  omega (arith, c.push_reserved.ensures.len, c.push_reserved-in-loop-b.ensures.len),
  omega arith,
)

pub returns-clause-reads : goal.returns-clause-reads
returns-clause-reads c =
    let bs = c.args.bytes.now in
    reads-back (vec_items c.args.text.now) _ bs _ _ c.loop-b.b-index (search rules) c.reserve.ensures.items
    (omega (arith, c.loop-b-test.false)) c.loop-b.invariant.0
    (All-from_get_or (λ b. b < 256) bs 0 (λ i _. let fits = c.type_inv.bytes i in search rules))
