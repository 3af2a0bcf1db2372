-- What a call answers.
use Rattle.std.specs.Prelude.{ℕ, List, [], ◌∷◌, ◌++◌}
use Rattle.codes.specs.declared.code.Code.{Code}
use Rattle.codes.specs.declared.command.Command.{Command}
use Rattle.codes.specs.declared.numbered.Coded.{Coded}
use Rattle.codes.specs.declared.numbered.Coded.TheVariants.{Known}
use Rattle.packet.specs.Requests.{RequestParts}
use Rattle.packet.specs.Responses.{bytes_in, reply_form}
use Rattle.packet.specs.declared.form.Form.{Form}
use Rattle.packet.specs.declared.response.Outcome.{Outcome}
use Rattle.machine.specs.State.{State, Waiting, command_of}

-- an outcome, the form of the packet that it belongs to, and the data that LT and RT answer
pub record Said : Type 0 where
  pub to : Form
  pub outcome : Outcome
  pub «data» : List ℕ

-- what an accepted call leads to: the next state, and its outcomes
pub record Step : Type 0 where
  pub next : State
  pub said : List Said

abbrev pub go : State → List Said → Step
go s said = record { next = s; said = said }

abbrev pub outcome : Coded Command → ℕ → ℕ → Code → Outcome
outcome command param size code = record { command = command; param = param; size = size; code = code }

-- an outcome of a packet's own call
abbrev pub answer : RequestParts → ℕ → ℕ → Code → List Said
answer q param size code = (record { to = q.form; outcome = outcome q.command param size code; «data» = [] }) ∷ []

abbrev pub answer_data : RequestParts → ℕ → ℕ → Code → List ℕ → List Said
answer_data q param size code bs =
    (record { to = q.form; outcome = outcome q.command param size code; «data» = bs }) ∷ []

-- an outcome with nothing in Param and Size, which leaves the state as it is
abbrev pub just : State → RequestParts → Code → Step
just s q code = go s (answer q 0 0 code)

-- an outcome of a request that waits
abbrev pub tell : Waiting → ℕ → ℕ → Code → Said
tell w param size code = record {
  to = w.form;
  outcome = outcome (Known (command_of w.phase)) param size code;
  «data» = [];
}

-- the bytes of the outcomes, one packet right behind the other
abbrev pub bytes_of : ℕ → List Said → List ℕ
bytes_of own [] = []
bytes_of own (x ∷ xs) = bytes_in (reply_form own x.to) x.outcome x.«data» ++ bytes_of own xs
