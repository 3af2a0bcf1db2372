-- The module once its memory and its administrators have changed.
use Rattle.std.proofs.Common.{ℕ, List}
use Rattle.machine.specs.State.{State}
use Rattle.machine.specs.declared.level.AdminRow.{AdminRow}
use Rattle.memory.specs.Held.{Held}

-- the module over another memory and with other administrators
abbrev pub remembering : State → ℕ → List Held → List AdminRow → State
remembering s room h rows = record {
  agree = s.agree;
  size = s.size;
  room = room;
  held = h;
  own = s.own;
  locked = s.locked;
  password = s.password;
  settings = s.settings;
  admins = rows;
  waiting = s.waiting;
}
