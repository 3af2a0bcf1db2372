use Rattle.std.proofs.Common.{vec_items, arith}
use Rattle.std.proofs.lemmas.Bool.Decides.{nat_tests}
use Rattle.std.proofs.lemmas.Grind.{common_steps}
use Rattle.memory.specs.Held.{none}
use Rattle.row_memory.specs.RowsLemmas.{rows_length, row-there}
use Rattle.row_memory.proofs.RowMemoryMemory.id_at.Goals as goal

pub returns : goal.returns
returns c =
    let s = c.args.self.now in
    let bs = vec_items s.bytes in
    let n = rows_length bs s.count in
    let r = row-there bs s.count c.args.place none in
    grind (arith, nat_tests, common_steps, r)
