use Rattle.std.proofs.Common.{◌*◌, ◌-◌, ap, ◌∙◌}
use borrow.Rule.Slice.PartMut.{put_mid}
use Rattle.row_memory.specs.RowsLemmas.{closed-within}
use Rattle.row_memory.proofs.chip.close_row.Goals as goal

pub returns : goal.returns
returns c =
    let bs = c.args.bytes.now in
    let a = c.args.place * 386 in
    ap (put_mid a (c.args.count * 386 - a) bs) c.close_first.ensures
    ∙ closed-within bs c.args.count c.args.place c.requires.place_lt_count c.requires.count_in_bounds
