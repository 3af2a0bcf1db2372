-- A template less: its record goes behind the others, so that its page is free.
use Rattle.std.proofs.Common.{◌≡◌, ℕ, Bool, suc, ◌+◌, ◌-◌, ◌<◌, ◌≤◌, cond, eqb, ltb, ◌≢◌, List, [], ◌∷◌, ◌++◌, map}
use Rattle.std.proofs.Common.{length, get_or, take, drop, Some, sym, refl, ap, ◌∙◌, ⊎_elim, arith}
use Rattle.std.specs.List.{position_or_len, remove}
use Rattle.std.proofs.lemmas.List.Sums.{position_or_len_is}
use Rattle.std.proofs.lemmas.List.{length-append, length-drop, length-take-le, drop_more, get_or_at, get_or-take}
use Rattle.std.proofs.lemmas.List.{get_or-drop, get_or_append_left, get_or-append_right, map-append, take-map, drop-map}
use Rattle.std.proofs.lemmas.List.{take_at, append_assoc}
use Rattle.std.proofs.lemmas.List.Edits.{length-remove, get_or-remove_below, get_or-remove_above}
use Rattle.std.proofs.lemmas.Bool.{cases_lt, cases_eq, cases_order, eq-eqb, ne_eqb}
use Rattle.std.proofs.lemmas.Bool.Decides.{nat_tests}
use Rattle.rows.specs.Rows.{place_of, struck, struck_at}
use Rattle.page_memory.specs.declared.directory.Record.{Record}
use Rattle.page_memory.specs.declared.layout.PageMemory.{PageMemory}
use Rattle.page_memory.specs.Pages.{blank, record_at, Filed, Inside, Apart}
use Rattle.page_memory.specs.Contents.{bytes_of, room_of}
use Rattle.page_memory.specs.Listed.{enough}

-- the first row with the key is the one at a place before which no row has it
found_at : {X : Type 0} (key_of : X → ℕ) (xs : List X) (at : ℕ) (d : X) → at < length xs
    → ((k : ℕ) → k < at → key_of (get_or xs k d) ≡ key_of (get_or xs at d) → ⊥) → place_of key_of (key_of (get_or xs at d)) xs ≡ Some at
found_at {X = X} key_of xs at d inside first =
    let has : X → Bool = λ x. eqb (key_of x) (key_of (get_or xs at d)) in
    let i : position_or_len has xs ≡ at =
    position_or_len_is has xs at d (omega arith) (λ k l. ne_eqb _ _ (first k l)) (λ _. eq-eqb _ _ refl) in
    grind (arith, nat_tests)

pub map-removed : {X Y : Type 0} (f : X → Y) (xs : List X) (at : ℕ) → map f (remove xs at) ≡ remove (map f xs) at
map-removed f xs at = map-append f (take at xs) (drop (suc at) xs) ∙ rw (take-map, drop-map)

module _ (m : PageMemory) (place : ℕ) (there : place < m.count) where
  abbrev front : List Record
  front = take m.count m.directory

  abbrev rest : List Record
  rest = drop m.count m.directory

  abbrev pub directory' : List Record
  directory' = remove front place ++ record_at m.directory place ∷ rest

  long : m.count ≤ length m.directory
  long = enough m

  front_at : (k : ℕ) → k < m.count → get_or front k blank ≡ record_at m.directory k
  front_at k h = get_or-take m.count m.directory k blank h

  front-there : place < length front
  front-there = let a = length-take-le m.count m.directory long in omega arith

  removed-length : length (remove front place) ≡ m.count - 1
  removed-length = let a = length-take-le m.count m.directory long in let b = length-remove front place front-there in omega arith

  first : (k : ℕ) → k < place → (get_or front k blank).page ≡ (get_or front place blank).page → ⊥
  first k l e =
      m.apart k place l (omega (arith, m.filed.1))
      (ap (λ r. r.page) (sym (front_at k (omega arith))) ∙ e ∙ ap (λ r. r.page) (front_at place there))

  -- the page at the place stands first there, so that this is the record that is struck among the first `n`
  pub strikes : (rows : List Record) (n : ℕ) → n ≡ m.count
      → rows ≡ struck (λ r. r.page) (record_at m.directory place).page (take n m.directory)
      → rows ++ drop n m.directory ≡ directory'
  strikes rows n all e =
      let one : take 1 (drop place front) ≡ record_at m.directory place ∷ [] =
      ap (take 1) (drop_more front place blank front-there) ∙ ap (λ r. r ∷ []) (front_at place there) in
      ap (λ xs. xs ++ drop n m.directory) e
      ∙ ap (λ k. struck (λ r. r.page) (record_at m.directory place).page (take k m.directory) ++ drop k m.directory) all
      ∙ ap (λ (r : Record). struck (λ x. x.page) r.page front ++ rest) (sym (front_at place there))
      ∙ ap (λ p. struck_at front p ++ rest) (found_at (λ r. r.page) front place blank front-there first)
      ∙ ap (λ xs. (remove front place ++ xs) ++ rest) one
      ∙ append_assoc (remove front place) (record_at m.directory place ∷ []) rest

  -- where the record at k came from
  abbrev from : ℕ → ℕ
  from k = cond (ltb k place) k (cond (ltb k (m.count - 1)) (k + 1) (cond (eqb k (m.count - 1)) place k))

  kept : (k : ℕ) → k < m.count - 1 → record_at directory' k ≡ get_or (remove front place) k blank
  kept k h = let n = removed-length in get_or_append_left (remove front place) (record_at m.directory place ∷ rest) blank k (omega arith)

  beyond : (k : ℕ) → m.count ≤ k → record_at directory' k ≡ record_at m.directory k
  beyond k h =
      let past : k - (m.count - 1) ≡ suc (k - m.count) = omega arith in
      get_or-append_right (remove front place) (record_at m.directory place ∷ rest) (m.count - 1) k blank removed-length (omega arith)
      ∙ ap (λ i. get_or (record_at m.directory place ∷ rest) i blank) past
      ∙ get_or-drop m.count m.directory (k - m.count) blank
      ∙ ap (record_at m.directory) (omega arith)

  came : (k : ℕ) → record_at directory' k ≡ record_at m.directory (from k)
  came k =
      let n = removed-length in
      ⊎_elim
      (λ (h : k < place). let f : from k ≡ k = grind (arith, nat_tests) in
      rw f (kept k (omega arith) ∙ get_or-remove_below front place blank k h front-there ∙ front_at k (omega arith)))
      (λ (h : place ≤ k). ⊎_elim
      (λ (i : k < m.count - 1). let f : from k ≡ k + 1 = grind (arith, nat_tests) in
      rw f (kept k i ∙ get_or-remove_above front place blank k h front-there ∙ front_at (k + 1) (omega arith)))
      (λ (i : m.count - 1 ≤ k). ⊎_elim
      (λ (e : k ≡ m.count - 1). let f : from k ≡ place = grind (arith, nat_tests) in
      rw (f, e) (get_or_at (remove front place) (record_at m.directory place) rest blank (m.count - 1) n))
      (λ (e : k ≢ m.count - 1). let f : from k ≡ k = grind (arith, nat_tests) in rw f (beyond k (omega arith)))
      (cases_eq k (m.count - 1)))
      (cases_lt k (m.count - 1)))
      (cases_lt k place)

  from-inside : (end k : ℕ) → m.count ≤ end → k < end → from k < end
  from-inside end k h l = grind (arith, nat_tests)

  from-apart : (j k : ℕ) → j < k → from j ≡ from k → ⊥
  from-apart j k l e = grind (arith, nat_tests)

  pub inside-struck : Inside (bytes_of m) directory'
  inside-struck k h = rw (came k) (m.inside (from k) (from-inside (room_of m) k m.filed.1 h))

  pub apart-struck : Apart directory'
  apart-struck j k l h e =
      let all : m.count ≤ 64 = omega (arith, m.filed.1) in
      let same : (record_at m.directory (from j)).page ≡ (record_at m.directory (from k)).page =
      ap (λ r. r.page) (sym (came j)) ∙ e ∙ ap (λ r. r.page) (came k) in
      let a = from-inside 64 k all h in
      let b = from-inside 64 j all (omega arith) in
      ⊎_elim
      (λ (z : from j ≡ from k). from-apart j k l z)
      (⊎_elim (λ (z : from j < from k). m.apart (from j) (from k) z a same)
      (λ (z : from k < from j). m.apart (from k) (from j) z b (sym same)))
      (cases_order (from j) (from k))

  pub filed-struck : Filed (bytes_of m) directory' (m.count - 1)
  filed-struck = (
    (let a = length-append (remove front place) (record_at m.directory place ∷ rest) in
        let b = length-drop m.count m.directory in let c = removed-length in let d = long in let n = m.filed.0 in omega arith),
    omega (arith, m.filed.1),
    λ k l. rw (came k) (m.filed.2 (from k) (from-inside m.count k (omega arith) (omega arith))),
  )

  -- what is read off the records: only that of the place is gone
  pub one_less : {X : Type 0} (f : Record → X) → map f (take (m.count - 1) directory') ≡ remove (map f front) place
  one_less f =
      ap (map f) (take_at (remove front place) (record_at m.directory place ∷ rest) (m.count - 1) removed-length)
      ∙ map-removed f front place
