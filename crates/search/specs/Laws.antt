-- What the searches answer, in words of places and IDs.
use Rattle.std.specs.Prelude.{◌≡◌, ℕ, ◌<◌, ◌≤◌, Bool, true, false, List, length, take, Some, None, Option, ◌≢◌}
use Rattle.memory.specs.Held.{Held, held_at}
use Rattle.search.specs.Ids.{count_of}

-- a template that passes has this ID and this number within it, and no older one passes
pub record IsOldest (ok : Held → Bool) (h : List Held) (id number : ℕ) : Type 0 where
  pub place : ℕ
  pub inside : place < length h
  pub passing : ok (held_at h place) ≡ true
  pub id_there : (held_at h place).id ≡ id
  pub numbered : count_of id (take place h) ≡ number
  pub older : (k : ℕ) → k < place → ok (held_at h k) ≡ false

-- a search finds the oldest template that passes, or none does
abbrev pub FindsOldest : (Held → Bool) → List Held → Option (ℕ × ℕ) → Type 0
FindsOldest ok h None = (k : ℕ) → k < length h → ok (held_at h k) ≡ false
FindsOldest ok h (Some x) = IsOldest ok h x.0 x.1

-- an ID without any template, where every lower one has some
pub record IsLowestFree (h : List Held) (id : ℕ) : Type 0 where
  pub some_id : 1 ≤ id
  pub free : count_of id h ≡ 0
  pub lower : (k : ℕ) → 1 ≤ k → k < id → count_of k h ≢ 0

-- the ID's template of this number stands at this place: exactly so many older ones have the ID
pub record IsNumbered (h : List Held) (id number place : ℕ) : Type 0 where
  pub inside : place < length h
  pub id_there : (held_at h place).id ≡ id
  pub older : count_of id (take place h) ≡ number

-- the template of this number, counted from 0, is found, or the ID has no more than `number` templates
abbrev pub FindsNumbered : List Held → ℕ → ℕ → Option ℕ → Type 0
FindsNumbered h id number None = count_of id h ≤ number
FindsNumbered h id number (Some place) = IsNumbered h id number place
