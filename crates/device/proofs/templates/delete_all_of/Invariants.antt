use Rattle.std.proofs.Common.{◌≡◌}
use Rattle.device.proofs.Without.{Cleared}
use Rattle.device.proofs.templates.delete_all_of.Given as goal

abbrev pub invariant-loop-turn : goal.invariant-loop-turn
invariant-loop-turn g l =
    Cleared l.id (g.S.Memory.held l.initial.memory) l.turn l.place (g.S.Memory.held l.memory)
    × (g.S.Memory.room l.memory ≡ g.S.Memory.room l.initial.memory)
