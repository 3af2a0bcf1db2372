-- Who agrees with a scan, at the security level in force.
use Rattle.std.specs.Prelude.{ℕ, Bool, cond, List, [], ◌∷◌, Option, ◌==◌, nat_eq}
use Rattle.matcher.specs.Levels.{strictness_of}
use Rattle.memory.specs.Held.{Held}
use Rattle.search.specs.Ids.{within}
use Rattle.search.specs.Oldest.{any_of, oldest, passes}
use Rattle.search.specs.declared.allowed.IdRange.{IdRange}
use Rattle.machine.specs.State.{State}

-- whether the matcher says yes, asked as strictly as the security level wants
abbrev pub agrees : State → List ℕ → List ℕ → Bool
agrees s scan stored = s.agree stored scan (strictness_of s.settings.security)

-- some held template agrees with the scan
abbrev pub any_agrees : State → List ℕ → Bool
any_agrees s scan = any_of (λ e. agrees s scan e.template) s.held

-- the oldest template that agrees, of the IDs that are allowed: its ID and its number
abbrev pub found_by : State → (ℕ → Bool) → List ℕ → Option (ℕ × ℕ)
found_by s allowed scan = oldest (passes allowed (agrees s scan)) s.held

abbrev pub found_one : State → ℕ → List ℕ → Option (ℕ × ℕ)
found_one s id scan = found_by s (λ other. nat_eq other id) scan

abbrev pub found_in : State → IdRange → List ℕ → Option (ℕ × ℕ)
found_in s range scan = found_by s (within range.least range.greatest) scan

-- the templates of every other ID
abbrev pub without : ℕ → List Held → List Held
without id [] = []
without id (e ∷ h) = cond (e.id == id) (without id h) (e ∷ without id h)
