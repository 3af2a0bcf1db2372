-- What contracts say of a session.
use Rattle.std.specs.Prelude.{ℕ, vec_capacity}
use Rattle.machine.specs.State.{State}
use Rattle.session.specs.Made.{state_of}
use Rattle.session.specs.declared.«module».AnyModule.{AnyModule}
use Rattle.session.specs.declared.session.Session.{Session}

-- its module
abbrev pub session_module : Session → AnyModule
session_module s = s.«module»

-- its module, as the machine's state
abbrev pub session_state : Session → State
session_state s = state_of s.«module»

-- how many bytes a line may ask about before memory is wanted for them
abbrev pub line_room : Session → ℕ
line_room s = vec_capacity s.bytes
