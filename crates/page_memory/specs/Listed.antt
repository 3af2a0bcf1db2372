-- The templates, as the first records of the directory list them.
use Rattle.std.specs.Prelude.{◌≡◌, ℕ, ◌+◌, ◌*◌, ◌<◌, ◌≤◌, List, map, length, take, drop, slice_index_or}
use Rattle.std.proofs.Common.{ap, ◌∙◌, arith}
use Rattle.std.specs.List.{AllByRecursion}
use Rattle.std.proofs.lemmas.List.{length-drop, length-map, length-take-le, get_or-map, get_or-take}
use Rattle.std.proofs.ByRecursion.{All-from_get_or}
use Rattle.memory.specs.Held.{Sound, none}
use Rattle.page_memory.specs.declared.directory.Record.{Record}
use Rattle.page_memory.specs.declared.layout.PageMemory.{PageMemory}
use Rattle.page_memory.specs.Pages.{blank, record_at, capacity_of, page_bytes, held_of}
use Rattle.page_memory.specs.Contents.{bytes_of, held_by, room_of}

pub page-fits : (bytes : List ℕ) (page : ℕ) → page < capacity_of bytes → page * 256 + 256 ≤ length bytes
page-fits bytes page h = omega arith

pub page-length : (bytes : List ℕ) (page : ℕ) → page * 256 + 256 ≤ length bytes → length (page_bytes bytes page) ≡ 256
page-length bytes page h = length-take-le 256 (drop (page * 256) bytes) (omega (arith, length-drop (page * 256) bytes))

module _ (m : PageMemory) where
  pub enough : m.count ≤ length m.directory
  enough = let a = m.filed.0 in let b = m.filed.1 in omega arith

  -- what is read off each of the first records
  module _ {X : Type 0} (f : Record → X) where
    pub listed-length : length (map f (take m.count m.directory)) ≡ m.count
    listed-length = length-map (take m.count m.directory) f ∙ length-take-le m.count m.directory enough

    pub listed_at : (k : ℕ) (d : X) → k < m.count
        → slice_index_or (map f (take m.count m.directory)) k d ≡ f (record_at m.directory k)
    listed_at k d h =
        let l = length-take-le m.count m.directory enough in
        get_or-map f (take m.count m.directory) k blank d (omega arith)
        ∙ ap f (get_or-take m.count m.directory k blank h)

  pub held-length : length (held_by m) ≡ m.count
  held-length = listed-length (held_of (bytes_of m))

  pub held-within : (length (held_by m) ≤ room_of m) × (room_of m ≤ 500)
  held-within = let l = held-length in let a = m.filed.1 in (omega arith, omega arith)

  pub held-sound : AllByRecursion (Sound 256) (held_by m)
  held-sound =
      All-from_get_or (Sound 256) (held_by m) none
      (λ k l. let n = held-length in let i : k < m.count = omega arith in let w = m.filed.2 k i in
      let c : k < room_of m = omega (arith, m.filed.1) in
      let page = (record_at m.directory k).page in
      rw (listed_at (held_of (bytes_of m)) k none i)
      (w.0, w.1, page-length (bytes_of m) page (page-fits (bytes_of m) page (m.inside k c))))
