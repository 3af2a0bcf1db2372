-- Locked modules cannot be told apart.
use Rattle.std.specs.Prelude.{◌≡◌, Bool, true, false, cond, ◌&&◌, ◌||◌, List, [], ◌∷◌, None, Ok, Err, Result, ◌==◌}
use Rattle.codes.specs.Codes.{code_number}
use Rattle.codes.specs.Commands.{command_number}
use Rattle.codes.specs.declared.code.Code.TheVariants.{Success}
use Rattle.codes.specs.declared.command.Command.TheVariants.{Unlock}
use Rattle.codes.specs.declared.refusal.Refusal.{Refusal}
use Rattle.packet.specs.Data.{known_among}
use Rattle.packet.specs.declared.response.Outcome.{Outcome}
use Rattle.machine.specs.Machine.{Call, next_of, step_of}
use Rattle.machine.specs.State.{State}
use Rattle.promises.specs.Runs.{Reached, Shown, answered, shown}

-- a SUCCESS of UM
abbrev pub unlocking : Outcome → Bool
unlocking o = known_among command_number (Unlock ∷ []) o.command && code_number o.code == code_number Success

abbrev pub any_unlocking : List Outcome → Bool
any_unlocking [] = false
any_unlocking (o ∷ os) = unlocking o || any_unlocking os

abbrev pub unlocks : Result (List Outcome) Refusal → Bool
unlocks (Ok os) = any_unlocking os
unlocks (Err e) = false

-- what calls show, in the order of time, up to and with the first successful unlock
abbrev pub shown_locked : State → List Call → List Shown
shown_locked s [] = []
shown_locked s (c ∷ cs) =
    shown s c ∷ cond (unlocks (answered (step_of s c))) [] (shown_locked (next_of s (step_of s c)) cs)

-- two locked modules, each reached from its own making, with equal password, number and Network Mode, show the same
abbrev pub LockedAlike : Type 0
LockedAlike =
    (a b : State) → Reached a → Reached b → a.locked ≡ true → b.locked ≡ true → a.password ≡ b.password → a.own ≡ b.own
    → a.settings.network ≡ b.settings.network → (cs : List Call) → shown_locked a cs ≡ shown_locked b cs

-- a locked module awaits nothing
abbrev pub LockedIdle : Type 0
LockedIdle = (s : State) → Reached s → s.locked ≡ true → s.waiting ≡ None
