-- What a call says can be read back from its bytes.
use Rattle.std.specs.Prelude.{◌≡◌, ℕ, ◌^◌, ◌<◌, List, [], ◌∷◌, ◌++◌, Ok}
use Rattle.memory.specs.Held.{Sound}
use Rattle.packet.specs.Responses.{ResponseParts, carries, reply_form}
use Rattle.packet.specs.Trips.{AsRead, Belongs, ReadAs, sent_in}
use Rattle.std.specs.List.{AllByRecursion}
use Rattle.machine.specs.Answers.{Said, Step, bytes_of}
use Rattle.machine.specs.Machine.{Call, step_of}
use Rattle.machine.specs.State.{State}

-- an outcome whose command was read from a packet, with the data that belongs to it
pub record ProperSaid (y : Said) : Type 0 where
  pub as_read : AsRead y.outcome.command
  pub data_belongs : Belongs (carries y.outcome) y.outcome.size y.«data»

-- what is sent of some outcomes: nothing for a broadcast
abbrev pub sent_of : ℕ → List Said → List ResponseParts
sent_of own [] = []
sent_of own (y ∷ ys) = sent_in (reply_form own y.to) y.outcome y.«data» ++ sent_of own ys

-- over a memory that is sound, every call says what is proper
abbrev pub SaysProper : Type 0
SaysProper =
    (s : State) → AllByRecursion (Sound s.size) s.held
    → (c : Call) (x : Step) → step_of s c ≡ Ok x → AllByRecursion ProperSaid x.said

-- Param and Size fit their four bytes
pub record FittingSaid (y : Said) : Type 0 where
  pub param_fits : y.outcome.param < 2 ^ 32
  pub size_fits : y.outcome.size < 2 ^ 32

-- the bytes of what is proper read as what was sent, and nothing more
abbrev pub ProperReads : Type 0
ProperReads =
    (own : ℕ) (ys : List Said) → own < 2 ^ 16 → AllByRecursion FittingSaid ys → AllByRecursion ProperSaid ys
    → ReadAs (bytes_of own ys) (sent_of own ys)
