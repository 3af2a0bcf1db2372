use Rattle.std.proofs.Common.{take}
use Rattle.search.proofs.Marks.{Marked}
use Rattle.search.proofs.ids.taken_ids.Given as goal

abbrev pub invariant-loop-place : goal.invariant-loop-place
invariant-loop-place g l = Marked 502 l.taken (take l.place (g.S.Memory.held l.memory))
