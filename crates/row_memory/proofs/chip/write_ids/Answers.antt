use Rattle.std.proofs.Common.{◌+◌, ◌*◌, ◌/◌, ◌<◌, length, sym, ap, ◌∙◌, arith}
use Rattle.memory.specs.Held.{fitting_ids, none}
use Rattle.memory.proofs.Blocks.{all_written, block_at, block-length, four, one_more}
use Rattle.row_memory.specs.Rows.{rows_in}
use Rattle.row_memory.specs.RowsLemmas.{row-there, rows_length}
use Rattle.row_memory.proofs.chip.write_ids.Goals as goal

pub loop-k-preserved : goal.loop-k-preserved
loop-k-preserved c =
    let h = rows_in c.args.bytes.now c.args.count in
    let k = c.loop-k.k in
    let xs = fitting_ids h c.args.from c.args.into.now in
    let n = block-length c.args.from (length c.args.into.now / 4) h in
    let rows = rows_length c.args.bytes.now c.args.count in
    let inside : k < length xs =
    omega (arith, n, rows, c.saturating_sub.ensures, c.min-number.ensures, c.loop-k-test.true) in
    let at = block_at c.args.from (length c.args.into.now / 4) k h inside in
    let there = row-there c.args.bytes.now c.args.count (c.args.from + k) none (omega (arith, at.0, rows)) in
    one_more xs c.loop-k.into c.args.into.now c.copy_from_slice.new.self k c.read_id-id.result _ (4 * k) inside
    (c.read_id-id.ensures ∙ ap (λ e. e.id) (sym there) ∙ sym at.1)
    (c.copy_from_slice.ensures.after ∙ c.to_le_bytes.ensures ∙ ap four c.from.ensures)
    (omega arith) (omega arith) c.loop-k.invariant

pub returns-clause-value : goal.returns-clause-value
returns-clause-value c =
    let n = block-length c.args.from (length c.args.into.now / 4) (rows_in c.args.bytes.now c.args.count) in
    omega (arith, n, rows_length c.args.bytes.now c.args.count, c.saturating_sub.ensures, c.min-number.ensures)

pub returns-clause-after : goal.returns-clause-after
returns-clause-after c =
    let xs = fitting_ids (rows_in c.args.bytes.now c.args.count) c.args.from c.args.into.now in
    all_written xs c.loop-k.into c.args.into.now c.loop-k.k
    (omega (arith, returns-clause-value c, c.min-number.ensures, c.loop-k-test.false, c.loop-k.auto.k-end))
    c.loop-k.invariant
