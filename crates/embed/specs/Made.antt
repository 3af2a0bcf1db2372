-- The module of the example.
use Rattle.std.specs.Prelude.{ℕ, Bool, List}
use Rattle.std.specs.Str.{bytes_eq}
use Rattle.machine.specs.State.{State, fresh}

-- equal bytes agree, however strict
abbrev pub agree : List ℕ → List ℕ → ℕ → Bool
agree stored scan strictness = bytes_eq stored scan

-- fresh, with templates of 256 bytes, 16 places and the number 1
abbrev pub made : State
made = fresh agree 256 16 1
