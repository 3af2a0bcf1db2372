-- The status that a program ends with.
use Rattle.std.specs.Prelude.{ℕ, Bool, true, false, Ok, Err, Result}
use Rattle.clap.specs.Values.{kind_of}
use Rattle.clap.specs.declared.error.ErrorKind.{ErrorKind as ArgumentsKind}
use Rattle.clap.specs.declared.error.ErrorKind.TheVariants.{DisplayHelp, DisplayVersion, OutOfMemory}
use Rattle.std.specs.declared.io.ErrorKind.{ErrorKind}
use Rattle.std.specs.declared.io.ErrorKind.TheVariants.{BrokenPipe}
use Rattle.cli.specs.declared.ending.Stop.{Stop}
use Rattle.cli.specs.declared.ending.Stop.TheVariants.{Closed, Arguments, Failed}

-- whoever read the output has closed it
abbrev pub is_broken_pipe : ErrorKind → Bool
is_broken_pipe BrokenPipe = true
is_broken_pipe _ = false

-- help was asked for; the arguments could not be read, for want of memory; or they are wrong
abbrev pub arguments_status : ArgumentsKind → ℕ
arguments_status DisplayHelp = 0
arguments_status DisplayVersion = 0
arguments_status OutOfMemory = 1
arguments_status _ = 2

abbrev pub stop_status : Stop → ℕ
stop_status Closed = 0
stop_status (Arguments e) = arguments_status (kind_of e)
stop_status (Failed e) = 1

abbrev pub status_of : {X : Type 0} → Result X Stop → ℕ
status_of (Ok x) = 0
status_of (Err stop) = stop_status stop
