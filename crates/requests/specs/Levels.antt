-- The level in the flag of AW, as the machine says it.
use Rattle.std.specs.Prelude.{Some, None, Ok, Err, Option, Result}
use Rattle.codes.specs.declared.code.Code.{Code}
use Rattle.codes.specs.declared.code.Code.TheVariants.{Unsupported}
use Rattle.machine.specs.Requests.{Wanted}
use Rattle.machine.specs.Requests.Wanted.{no_level, wanted}
use Rattle.machine.specs.declared.level.Level.{Level}

-- what is wanted: a level, or none any more; another flag is refused
abbrev pub level_or_fault : Option Wanted → Result (Option Level) Code
level_or_fault None = Err Unsupported
level_or_fault (Some no_level) = Ok None
level_or_fault (Some (wanted level)) = Ok (Some level)
