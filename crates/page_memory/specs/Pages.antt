-- Pages of 256 bytes, and a directory of 64 records: the first of them are the templates in their order, each with its
-- page, and the next ones, up to the capacity, name the free pages.
use Rattle.std.specs.Prelude.{◌≡◌, ℕ, ◌*◌, ◌/◌, ◌^◌, ◌<◌, ◌≤◌, min, List, [], ◌∷◌, ◌++◌, map, length, take, drop}
use Rattle.std.specs.Prelude.{Result, MatchResult, ◌≢◌, slice_index_or}
use Rattle.std.specs.List.{ContainsAt as Has}
use Rattle.memory.specs.Held.{Held}
use Rattle.memory.specs.declared.NotAdded.{NotAdded}
use Rattle.page_memory.specs.declared.directory.Record.{Record}

abbrev pub blank : Record
blank = record { id = 0; page = 0 }

abbrev pub record_at : List Record → ℕ → Record
record_at directory k = slice_index_or directory k blank

-- how many templates fit: one to each whole page, and no more than there are records
abbrev pub capacity_of : List ℕ → ℕ
capacity_of bytes = min 64 (length bytes / 256)

-- what stands on a page
abbrev pub page_bytes : List ℕ → ℕ → List ℕ
page_bytes bytes page = take 256 (drop (page * 256) bytes)

-- the template that a record stands for
abbrev pub held_of : List ℕ → Record → Held
held_of bytes r = record { id = r.id; template = page_bytes bytes r.page }

-- the templates in their order
abbrev pub held_in : List ℕ → List Record → ℕ → List Held
held_in bytes directory count = map (held_of bytes) (take count directory)

-- the pages of the templates in their order
abbrev pub pages_in : List Record → ℕ → List ℕ
pages_in directory count = map (λ r. r.page) (take count directory)

-- there is a record for each template, which has an ID
abbrev pub Filed : List ℕ → List Record → ℕ → Type 0
Filed bytes directory count =
    (length directory ≡ 64) × (count ≤ capacity_of bytes)
    × ((k : ℕ) → k < count → (0 < (record_at directory k).id) × ((record_at directory k).id < 2 ^ 16))

-- the pages up to the capacity are the chip's
abbrev pub Inside : List ℕ → List Record → Type 0
Inside bytes directory = (k : ℕ) → k < capacity_of bytes → (record_at directory k).page < capacity_of bytes

-- no page stands twice
abbrev pub Apart : List Record → Type 0
Apart directory = (j k : ℕ) → j < k → k < 64 → (record_at directory j).page ≢ (record_at directory k).page

-- one template more: it has a page of the chip that none of the others has, and they keep theirs
pub record NewPage (capacity : ℕ) (before after : List ℕ) : Type 0 where
  pub page : ℕ
  pub there : page < capacity
  pub free : Has before page → ⊥
  pub last : after ≡ before ++ page ∷ []

-- a template that is refused gets no page
abbrev pub PagesAdded : Result (Unit {0}) NotAdded → ℕ → List ℕ → List ℕ → Type 0
PagesAdded r capacity before after = MatchResult r (λ _. NewPage capacity before after) (λ _. after ≡ before)
