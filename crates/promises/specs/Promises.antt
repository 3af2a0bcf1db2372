-- The promises: what holds after every list of calls from a module's making on.
use Rattle.std.specs.Prelude.{◌≡◌, ℕ, ◌+◌, ◌≤◌, nat_eq, Bool, true, ◌&&◌, ◌||◌, ◌⊎◌, Option, Result, Ok, Err}
use Rattle.std.specs.Prelude.{List, [], ◌∷◌, map, length, count_by}
use Rattle.codes.specs.declared.command.Command.{Command}
use Rattle.codes.specs.declared.command.Command.TheVariants.{EnrollByAdministrator, DeleteByAdministrator}
use Rattle.codes.specs.declared.numbered.Coded.{Coded}
use Rattle.codes.specs.declared.parameter.Parameter.TheVariants.{AvailableFinger}
use Rattle.codes.specs.declared.refusal.Refusal.{Refusal}
use Rattle.memory.specs.Held.{Held}
use Rattle.packet.specs.Data.{known_among}
use Rattle.codes.specs.Commands.{command_number}
use Rattle.packet.specs.declared.response.Outcome.{Outcome}
use Rattle.machine.specs.declared.level.Level.{Level}
use Rattle.machine.specs.Administrators.{if_any, may_delete, may_enroll}
use Rattle.machine.specs.Machine.{Call, Event, after}
use Rattle.machine.specs.Machine.Event.{packet, finger, second}
use Rattle.machine.specs.Requests.{parameter_value}
use Rattle.machine.specs.Searches.{agrees}
use Rattle.machine.specs.State.{State, fresh}
use Rattle.promises.specs.Grants.{Each, Pays, UsedAt, failed_ends, grant_held, grants, in_time, named, one_if, uses}
use Rattle.promises.specs.Record.{Entry, Mark, Told, mark, record_of, tally, told}
use Rattle.promises.specs.Record.Mark.{scan, grant, success, failure}

-- what holds of a CONTINUE
abbrev pub OnGrant : Mark → Type 0 → Type 0
OnGrant scan P = Unit {0}
OnGrant grant P = P
OnGrant success P = Unit {0}
OnGrant failure P = Unit {0}

-- a template held under the ID agrees with the scan
abbrev pub Agreed : State → List ℕ → ℕ → List Held → Type 0
Agreed s x id [] = ⊥
Agreed s x id (e ∷ h) = ((e.id ≡ id) × (agrees s x e.template ≡ true)) ⊎ Agreed s x id h

abbrev pub Earned : State → Event → ℕ → Type 0
Earned s (packet frame) id = ⊥
Earned s (finger x quality) id = Agreed s x id s.held
Earned s second id = ⊥

-- each CONTINUE among the outcomes of one call that came at the state `s` was earned by its finger
abbrev pub AllEarned : State → Event → List Outcome → Type 0
AllEarned s e [] = Unit {0}
AllEarned s e (o ∷ os) = OnGrant (mark o.code) (Earned s e o.param) × AllEarned s e os

abbrev pub EarnedBy : State → Event → Result (List Outcome) Refusal → Type 0
EarnedBy s e (Ok os) = AllEarned s e os
EarnedBy s e (Err r) = Unit {0}

-- each CONTINUE of the record: its call came at the state to which the calls before it had led
abbrev pub EarnedIn : State → List Entry → Type 0
EarnedIn s [] = Unit {0}
EarnedIn s (x ∷ xs) = EarnedBy (after s (map (λ y. y.call) xs)) x.call.event x.answer × EarnedIn s xs

-- the level in the tally at that moment allowed the command: 1 or 3 for ESA, 2 or 3 for DSA
abbrev pub allowed_by : (ℕ → Option Level) → Coded Command → ℕ → Bool
allowed_by level c id =
    (known_among command_number (EnrollByAdministrator ∷ []) c && if_any may_enroll (level id))
    || (known_among command_number (DeleteByAdministrator ∷ []) c && if_any may_delete (level id))

abbrev pub allowed : Told → List Told → Type 0
allowed t before = OnGrant (mark t.out.code) (allowed_by (tally before).level t.out.command t.out.param ≡ true)

-- of a module that was `s` when it was made, has the record `x`, in which the outcomes are `ts`, and now is `w`
pub record Promised (s : State) (x : List Entry) (ts : List Told) (w : State) : Type 0 where
  -- every outcome belongs to a packet of the record, and its command is that packet's
  pub owned : Each named ts
  -- grants balance: each was spent, failed, or is held now
  pub balanced : grants ts ≡ uses ts + failed_ends (in_time ts) + one_if (grant_held w.waiting)
  -- a SUCCESS of ESA or DSA has exactly one CONTINUE of its own request before it
  pub one_grant : (k : ℕ) → UsedAt k ts → (j : ℕ) × Pays ts j k × ((i : ℕ) → Pays ts i k → i ≡ j)
  -- a grant is spent once
  pub spent_once : (j k l : ℕ) → Pays ts j k → Pays ts j l → k ≡ l
  -- a grant is earned by a scan that agreed with a template then held under its ID
  pub earned : EarnedIn s x
  -- whose level allowed the command
  pub allowed_then : Each allowed ts
  -- the tally lists the IDs of the held templates, in their order
  pub listed : (tally ts).ids ≡ map (λ e. e.id) w.held
  -- each at most ten times
  pub at_most_ten : (id : ℕ) → count_by (λ y. nat_eq y id) (tally ts).ids ≤ 10
  -- its length and Available Finger make the capacity
  pub capacity : length (tally ts).ids + parameter_value w AvailableFinger ≡ s.room

-- over every matcher, template size, capacity and module number, after every list of calls
abbrev pub AlwaysPromised : Type 0
AlwaysPromised =
    (agree : List ℕ → List ℕ → ℕ → Bool) (size room own : ℕ) (h : List Call)
    → (let s = fresh agree size room own in Promised s (record_of s h) (told own (record_of s h)) (after s h))
