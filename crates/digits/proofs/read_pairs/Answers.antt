use Rattle.std.proofs.Common.{◌*◌, arith, ltb-true}
use Rattle.std.proofs.lemmas.Result.{err_from_is_err_and}
use Rattle.digits.proofs.Pairs.{one_more, read_all, spelled, stops}
use Rattle.digits.proofs.read_pairs.Goals as goal

pub returns-in_err-byte_from-clause-value : goal.returns-in_err-byte_from-clause-value
returns-in_err-byte_from-clause-value c =
    let p = err_from_is_err_and c.from_residual.result c.from_residual.ensures.1 in
    rw (p.1, p.2)
    (stops c.args.digits.now _ _ c.loop-index.index _ _ c.as_chunks.ensures.front (omega arith)
    c.in_err-byte_from.ensures c.loop-index.invariant.read)

pub loop-index-preserved : goal.loop-index-preserved
loop-index-preserved c = record {
  read =
      one_more c.args.digits.now _ _ _ c.loop-index.index _ _ c.as_chunks.ensures.front (omega arith) c.in_ok-byte_from.ensures
      c.push_reserved.ensures.items c.loop-index.invariant.read;
  count = omega arith;
  same = omega (arith, c.push_reserved.ensures.capacity);
}

pub returns-then-last-lt1-clause-back : goal.returns-then-last-lt1-clause-back
returns-then-last-lt1-clause-back c =
    spelled 0 c.args.digits.now _ (read_all (2 * c.loop-index.index) _ _ _ (omega (arith, ltb-true)) c.loop-index.invariant.read)
