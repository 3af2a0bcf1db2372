-- What a level allows.
use Rattle.std.specs.Prelude.{Bool}
use Rattle.machine.specs.declared.level.Level.{Level}
use Rattle.machine.specs.Administrators.{may_delete, may_enroll}
use Rattle.administrators.specs.declared.right.Right.{Right}
use Rattle.administrators.specs.declared.right.Right.TheVariants.{Enroll, Delete}

abbrev pub permits : Right → Level → Bool
permits Enroll = may_enroll
permits Delete = may_delete
