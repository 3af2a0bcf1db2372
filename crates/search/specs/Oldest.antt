-- What a search finds, over the list of held templates.
use Rattle.std.specs.Prelude.{ℕ, Bool, false, cond, ◌&&◌, ◌||◌, List, [], ◌∷◌, ◌++◌, Some, None, Option}
use Rattle.memory.specs.Held.{Held}
use Rattle.search.specs.Ids.{count_of}

-- a template passes: its ID is allowed, and it agrees
abbrev pub passes : (ℕ → Bool) → (List ℕ → Bool) → Held → Bool
passes allowed agrees e = allowed e.id && agrees e.template

-- the oldest template that passes: its ID, and its number, which is how many older ones have that ID
abbrev pub oldest_from : (Held → Bool) → List Held → List Held → Option (ℕ × ℕ)
oldest_from ok older [] = None
oldest_from ok older (e ∷ h) = cond (ok e) (Some (e.id, count_of e.id older)) (oldest_from ok (older ++ e ∷ []) h)

abbrev pub oldest : (Held → Bool) → List Held → Option (ℕ × ℕ)
oldest ok h = oldest_from ok [] h

-- some template passes
abbrev pub any_of : (Held → Bool) → List Held → Bool
any_of ok [] = false
any_of ok (e ∷ h) = ok e || any_of ok h
