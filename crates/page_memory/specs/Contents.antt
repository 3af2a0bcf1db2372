-- What a page memory holds.
use Rattle.std.specs.Prelude.{ℕ, List, vec_items}
use Rattle.memory.specs.Held.{Held}
use Rattle.page_memory.specs.declared.layout.PageMemory.{PageMemory}
use Rattle.page_memory.specs.Pages.{capacity_of, held_in, pages_in}

-- the bytes of its chip
abbrev pub bytes_of : PageMemory → List ℕ
bytes_of m = vec_items m.bytes

-- its templates, oldest first
abbrev pub held_by : PageMemory → List Held
held_by m = held_in (bytes_of m) m.directory m.count

-- the page of each of them, in the same order
abbrev pub pages_of : PageMemory → List ℕ
pages_of m = pages_in m.directory m.count

-- how many templates it can hold
abbrev pub room_of : PageMemory → ℕ
room_of m = capacity_of (bytes_of m)
