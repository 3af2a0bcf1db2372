-- The module that the story tells of.
use Rattle.std.specs.Prelude.{ℕ, Bool, List}
use Rattle.std.specs.Str.{bytes_eq}
use Rattle.engine.specs.Seen.{state}
use Rattle.machine.specs.State.{State, fresh}
use Rattle.story.specs.declared.bench.Bench.{Bench}

-- a stored template and a scan agree where their bytes are equal, however strict
abbrev pub equal_bytes : List ℕ → List ℕ → ℕ → Bool
equal_bytes stored scan strictness = bytes_eq stored scan

-- fresh, with templates of 256 bytes, 16 places and the number 1
abbrev pub told_module : State
told_module = fresh equal_bytes 256 16 1

-- the module on the bench, as the machine's state
abbrev pub bench_state : Bench → State
bench_state b = state _ _ b.«module»
