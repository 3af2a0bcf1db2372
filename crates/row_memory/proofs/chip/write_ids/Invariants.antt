use Rattle.std.proofs.Common.{◌≡◌, ◌*◌, ◌++◌, take, drop}
use Rattle.std.specs.List.{flat_map}
use Rattle.memory.specs.Held.{fitting_ids}
use Rattle.memory.proofs.Blocks.{four}
use Rattle.row_memory.specs.Rows.{rows_in}
use Rattle.row_memory.proofs.chip.write_ids.Given as goal

abbrev pub invariant-loop-k : goal.invariant-loop-k
invariant-loop-k l =
    l.into ≡ flat_map four (take l.k (fitting_ids (rows_in l.bytes l.count) l.from l.initial.into))
    ++ drop (4 * l.k) l.initial.into
