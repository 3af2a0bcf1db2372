-- A module of any kind, as the machine's state.
use Rattle.engine.specs.Seen.{state}
use Rattle.machine.specs.State.{State}
use Rattle.session.specs.declared.«module».AnyModule.{AnyModule}
use Rattle.session.specs.declared.«module».AnyModule.TheVariants.{
  BytesOnPages,
  PointsOnPages,
  BytesOnRows,
  PointsOnRows,
}

abbrev pub state_of : AnyModule → State
state_of (BytesOnPages m) = state _ _ m
state_of (PointsOnPages m) = state _ _ m
state_of (BytesOnRows m) = state _ _ m
state_of (PointsOnRows m) = state _ _ m
