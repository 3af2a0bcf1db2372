-- A template more: the first free page is written, and its record gets the ID.
use Rattle.std.proofs.Common.{◌≡◌, ℕ, ◌+◌, ◌*◌, ◌/◌, ◌^◌, ◌<◌, ◌≤◌, min, ◌≢◌, List, [], ◌∷◌, ◌++◌, map, length, take}
use Rattle.std.proofs.Common.{set, sym, ap, ◌∙◌, ⊎_elim, arith}
use lib.Seq.{paste}
use Rattle.std.specs.Vec.{with_items}
use Rattle.std.specs.List.{ContainsAt as Has}
use Rattle.std.proofs.lemmas.List.{same_lists, get_or-set_same, get_or-set_other, length-set, map_push, take_more_set, with_items_is}
use Rattle.std.proofs.lemmas.Bool.{cases_lt, cases_eq}
use Rattle.page_memory.specs.declared.directory.Record.{Record}
use Rattle.page_memory.specs.declared.layout.PageMemory.{PageMemory}
use Rattle.page_memory.specs.Pages.{blank, record_at, capacity_of, held_of, held_in, pages_in, Filed, Inside, Apart, NewPage}
use Rattle.page_memory.specs.Contents.{bytes_of, held_by, pages_of, room_of}
use Rattle.page_memory.specs.Listed.{page-fits, listed-length, listed_at}
use Rattle.page_memory.proofs.Written.{written, written-length, page-other, page-here}

module _ (m : PageMemory) (id : ℕ) (template : List ℕ) (room : m.count < room_of m) (long : length template ≡ 256) where
  abbrev free : ℕ
  free = (record_at m.directory m.count).page

  fits : free * 256 + 256 ≤ length (bytes_of m)
  fits = page-fits (bytes_of m) free (m.inside m.count room)

  abbrev bytes' : List ℕ
  bytes' = written (bytes_of m) free template fits long

  abbrev new : Record
  new = record { id = id; page = free }

  abbrev pub directory' : List Record
  directory' = set m.directory m.count new

  bytes-length : length bytes' ≡ length (bytes_of m)
  bytes-length = written-length (bytes_of m) free template fits long

  capacity-same : capacity_of bytes' ≡ room_of m
  capacity-same = ap (λ n. min 64 (n / 256)) bytes-length

  within : m.count < length m.directory
  within = let a = m.filed.0 in omega arith

  record-other : (k : ℕ) → k ≢ m.count → record_at directory' k ≡ record_at m.directory k
  record-other k ne = get_or-set_other m.directory m.count k new blank ne

  record-here : record_at directory' m.count ≡ new
  record-here = get_or-set_same m.directory m.count new blank within

  page-kept : (k : ℕ) → (record_at directory' k).page ≡ (record_at m.directory k).page
  page-kept k =
      ⊎_elim
      (λ (e : k ≡ m.count). rw e (ap (λ r. r.page) record-here))
      (λ (ne : k ≢ m.count). ap (λ r. r.page) (record-other k ne))
      (cases_eq k m.count)

  -- what is read off the records: that of the new one comes last
  one_more : {X : Type 0} (f : Record → X) → map f (take (m.count + 1) directory') ≡ map f (take m.count m.directory) ++ f new ∷ []
  one_more f = ap (map f) (take_more_set m.directory m.count new within) ∙ map_push f (take m.count m.directory) new

  others : held_in bytes' m.directory m.count ≡ held_by m
  others =
      let a = listed-length m (held_of bytes') in let b = listed-length m (held_of (bytes_of m)) in
      same_lists (held_in bytes' m.directory m.count) (held_by m) (a ∙ sym b)
      (λ k d l. let i : k < m.count = omega arith in let c : m.count < 64 = omega arith in
      listed_at m (held_of bytes') k d i
      ∙ ap (λ t. record { id = (record_at m.directory k).id; template = t })
      (page-other (bytes_of m) free template fits long (record_at m.directory k).page (m.apart k m.count i c))
      ∙ sym (listed_at m (held_of (bytes_of m)) k d i))

  held-added : held_in bytes' directory' (m.count + 1) ≡ held_by m ++ (record { id = id; template = template }) ∷ []
  held-added =
      one_more (held_of bytes') ∙ ap (λ h. h ++ held_of bytes' new ∷ []) others
      ∙ ap (λ t. held_by m ++ (record { id = id; template = t }) ∷ []) (page-here (bytes_of m) free template fits long)

  is_free : Has (pages_of m) free → ⊥
  is_free h =
      let l = listed-length m (λ r. r.page) in
      let i : h.0 < m.count = omega (arith, h.1) in
      m.apart h.0 m.count i (omega arith) (sym (listed_at m (λ r. r.page) h.0 0 i) ∙ h.2 0)

  page-added : NewPage (room_of m) (pages_of m) (pages_in directory' (m.count + 1))
  page-added = record { page = free; there = m.inside m.count room; free = is_free; last = one_more (λ r. r.page) }

  filed-added : 0 < id → id < 2 ^ 16 → Filed bytes' directory' (m.count + 1)
  filed-added some small =
      let c = capacity-same in (
        length-set m.directory m.count new ∙ m.filed.0,
        omega arith,
        λ k l. ⊎_elim
            (λ (h : k < m.count). rw (record-other k (omega arith)) (m.filed.2 k h))
            (λ (h : m.count ≤ k). let e : k ≡ m.count = omega arith in rw (e, record-here) (some, small))
            (cases_lt k m.count),
      )

  inside-added : Inside bytes' directory'
  inside-added k h = let c = capacity-same in let e = page-kept k in let i = m.inside k (omega arith) in omega arith

  apart-added : Apart directory'
  apart-added j k l h e = m.apart j k l h (sym (page-kept j) ∙ e ∙ page-kept k)

  -- what the memory then is, with the bytes as the page's write left them
  pub added : (ws bs : List ℕ) (page : ℕ) → ws ≡ paste bs (page * 256) template 256 → bs ≡ bytes_of m → page ≡ free → 0 < id → id < 2 ^ 16
      → (Filed (with_items m.bytes ws).items directory' (m.count + 1) × Inside (with_items m.bytes ws).items directory' × Apart directory')
      × (held_in (with_items m.bytes ws).items directory' (m.count + 1) ≡ held_by m ++ (record { id = id; template = template }) ∷ [])
      × (capacity_of (with_items m.bytes ws).items ≡ room_of m)
      × NewPage (room_of m) (pages_of m) (pages_in directory' (m.count + 1))
  added ws bs page wrote same first some small =
      let e : ws ≡ bytes' = wrote ∙ ap (λ b. paste b (page * 256) template 256) same
      ∙ ap (λ p. paste (bytes_of m) (p * 256) template 256) first in
      let refill : (with_items m.bytes ws).items ≡ bytes' = with_items_is m.bytes ws (ap length e ∙ bytes-length ∙ sym m.bytes.ok.0) ∙ e in
      rw refill ((filed-added some small, inside-added, apart-added), held-added, capacity-same, page-added)
