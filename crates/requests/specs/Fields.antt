-- What the fields of a request say, and what refuses it.
use Rattle.std.specs.Prelude.{ℕ, cond, Ok, Err, Result}
use Rattle.codes.specs.declared.code.Code.{Code}
use Rattle.codes.specs.declared.code.Code.TheVariants.{InvalidId}
use Rattle.machine.specs.Ids.{is_id}
use Rattle.machine.specs.Requests.{for_held}
use Rattle.machine.specs.State.{State}

-- the ID in Param
abbrev pub id_in : ℕ → Result ℕ Code
id_in param = cond (is_id param) (Ok param) (Err InvalidId)

-- the same, where it has templates
abbrev pub held_id : State → ℕ → Result ℕ Code
held_id s param = for_held s param Err (Ok param)
