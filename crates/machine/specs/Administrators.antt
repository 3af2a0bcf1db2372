-- The table of administrators: at most 16 rows, each an ID and a level.
use Rattle.std.specs.Prelude.{ℕ, Bool, true, false, cond, ◌||◌, List, [], ◌∷◌, ◌++◌, length, is_some, Some, None}
use Rattle.std.specs.Prelude.{Option, ◌==◌, nat_lt}
use Rattle.machine.specs.declared.level.AdminRow.{AdminRow}
use Rattle.machine.specs.declared.level.Level.{Level}
use Rattle.machine.specs.declared.level.Level.TheVariants.{Enroll, Delete, All}

abbrev pub may_enroll : Level → Bool
may_enroll Enroll = true
may_enroll Delete = false
may_enroll All = true

abbrev pub may_delete : Level → Bool
may_delete Enroll = false
may_delete Delete = true
may_delete All = true

-- the level of an ID
abbrev pub level_of : ℕ → List AdminRow → Option Level
level_of id [] = None
level_of id (r ∷ rows) = cond (r.id == id) (Some r.level) (level_of id rows)

abbrev pub if_any : (Level → Bool) → Option Level → Bool
if_any f None = false
if_any f (Some level) = f level

-- the ID is an administrator whose level passes
abbrev pub is_admin : (Level → Bool) → List AdminRow → ℕ → Bool
is_admin f rows id = if_any f (level_of id rows)

-- some administrator's level passes
abbrev pub any_admin : (Level → Bool) → List AdminRow → Bool
any_admin f [] = false
any_admin f (r ∷ rows) = f r.level || any_admin f rows

-- the rows of every other ID
abbrev pub struck : ℕ → List AdminRow → List AdminRow
struck id [] = []
struck id (r ∷ rows) = cond (r.id == id) (struck id rows) (r ∷ struck id rows)

-- the level in the row of an ID, changed
abbrev pub changed : ℕ → Level → List AdminRow → List AdminRow
changed id level [] = []
changed id level (r ∷ rows) =
    cond (r.id == id) ((record { id = r.id; level = level }) ∷ rows) (r ∷ changed id level rows)

-- the level is written into one row of at most 16: the ID's own, or a new one behind them; `full` where none is left
abbrev pub written : {X : Type 0} → ℕ → Level → List AdminRow → X → (List AdminRow → X) → X
written id level rows full f =
    cond (is_some (level_of id rows)) (f (changed id level rows))
    (cond (nat_lt (length rows) 16) (f (rows ++ (record { id = id; level = level }) ∷ [])) full)
