-- What is told of a request that waits, as a module keeps it.
use Rattle.std.specs.Prelude.{List, [], ◌∷◌, Some, None, Option}
use Rattle.codes.specs.declared.command.Command.{Command}
use Rattle.device.specs.View.{plain}
use Rattle.device.specs.declared.answers.Told.{Told}
use Rattle.device.specs.declared.keeping.Device.{Device}
use Rattle.machine.specs.Answers.{Said}
use Rattle.machine.specs.State.{Phase, Waiting, command_of}

-- it waits for this
abbrev pub waiting_for : {M S : Type 0} → Device M S → Phase → Waiting
waiting_for d phase = record { form = d.form; phase = phase; left = d.left }

-- the command of the request that waits
abbrev pub command_in : Option Waiting → Option Command
command_in None = None
command_in (Some w) = Some (command_of w.phase)

-- an outcome, where there is one
abbrev pub listed : Option Told → List Said
listed None = []
listed (Some t) = plain t ∷ []
