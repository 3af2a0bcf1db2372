-- The rows in a chip's bytes, and what a write does to them.
use Rattle.std.specs.Prelude.{◌≡◌, ℕ, suc, ◌+◌, ◌-◌, ◌*◌, ◌/◌, ◌^◌, ◌<◌, ◌≤◌, min, List, [], ◌∷◌, ◌++◌, length}
use Rattle.std.specs.Prelude.{take, drop, Vec, slice_index_or}
use Rattle.std.proofs.Common.{sym, ap, ◌∙◌, ⊎_elim, arith}
use Rattle.std.proofs.Math.Numerals.{towards_numerals}
use Rattle.std.specs.Vec.{with_items}
use Rattle.std.specs.List.{remove, AllByRecursion}
use Rattle.std.proofs.lemmas.List.FromFn.{length-map-range_with_len, get_or-map-range_with_len, map-range_with_len_more}
use Rattle.std.proofs.lemmas.List.Edits.{length-paste, paste_all, length-remove, get_or-remove_below}
use Rattle.std.proofs.lemmas.List.Edits.{get_or-remove_above}
use Rattle.std.proofs.ByRecursion.{All-append, All-drop, All-from_get_or, All-get_or, All-push, All-take}
use Rattle.std.proofs.lemmas.List.{same_lists, places, with_items_is, append_assoc, length-take, length-take-le}
use Rattle.std.proofs.lemmas.List.{length-drop}
use Rattle.std.proofs.lemmas.List.{take_all, take_at, drop_at, take-append-drop, drop-take, drop-drop, get_or-take}
use Rattle.std.proofs.lemmas.List.{get_or-drop}
use Rattle.std.proofs.Math.Nat.{add_comm, zero-add}
use Rattle.std.proofs.lemmas.Bool.{cases_lt}
use borrow.Rule.Slice.PartMut.{put_mid}
use Rattle.memory.specs.Held.{Held, Sound, none}
use Rattle.row_memory.specs.Rows.{capacity_of, row_at, held_in, rows_in, AllSound, row_of, written, closed}
use Rattle.row_memory.specs.Rows.{closed_first}

pub rows_length : (bs : List ℕ) (n : ℕ) → length (rows_in bs n) ≡ n
rows_length bs n = length-map-range_with_len (λ k. held_in (row_at bs k)) 0 n

pub row-there : (bs : List ℕ) (n k : ℕ) (d : Held) → k < n → slice_index_or (rows_in bs n) k d ≡ held_in (row_at bs k)
row-there bs n k d h = get_or-map-range_with_len (λ k. held_in (row_at bs k)) 0 n k k d h (omega arith)

-- the counted rows are sound, one by one and all together
pub all_sound : (bs : List ℕ) (n : ℕ) → AllSound bs n → AllByRecursion (Sound 384) (rows_in bs n)
all_sound bs n sound = let m = rows_length bs n in
    All-from_get_or (Sound 384) (rows_in bs n) none (λ k l. sound k (omega arith))

each-sound : (bs : List ℕ) (n : ℕ) → AllByRecursion (Sound 384) (rows_in bs n) → AllSound bs n
each-sound bs n all k l = let m = rows_length bs n in All-get_or (Sound 384) (rows_in bs n) k none (omega arith) all

same-capacity : (cs bs : List ℕ) → length cs ≡ length bs → capacity_of cs ≡ capacity_of bs
same-capacity cs bs e = ap (λ l. min 500 (l / 386)) e

row-length : (bs : List ℕ) (k : ℕ) → k * 386 + 386 ≤ length bs → length (row_at bs k) ≡ 386
row-length bs k h = length-take-le 386 (drop (k * 386) bs) (omega (arith, length-drop (k * 386) bs))

pub row-byte : (bs : List ℕ) (k i d : ℕ) → i < 386
    → slice_index_or (row_at bs k) i d ≡ slice_index_or bs (k * 386 + i) d
row-byte bs k i d h = rw (get_or-take, get_or-drop)

-- two rows are the same, byte by byte
same_row : (cs bs : List ℕ) (j k : ℕ) → j * 386 + 386 ≤ length cs → k * 386 + 386 ≤ length bs
    → ((i d : ℕ) → i < 386 → slice_index_or cs (j * 386 + i) d ≡ slice_index_or bs (k * 386 + i) d)
    → row_at cs j ≡ row_at bs k
same_row cs bs j k l m same =
    let a = row-length cs j l in
    same_lists (row_at cs j) (row_at bs k) (a ∙ sym (row-length bs k m))
    (λ i d n. let n' : i < 386 = omega arith in row-byte cs j i d n' ∙ same i d n' ∙ sym (row-byte bs k i d n'))

-- the bytes of a chip with n counted rows, which hold h, and room for r
pub record Chip (bs : List ℕ) (n : ℕ) (h : List Held) (r : ℕ) : Type 0 where
  pub fits : n ≤ capacity_of bs
  pub sound : AllSound bs n
  pub holds : rows_in bs n ≡ h
  pub room : capacity_of bs ≡ r

-- what a Vec holds once all of it was lent and came back, changed by f
came-back : {Z : Type 0} (v : Vec ℕ Z) (f : List ℕ → List ℕ) {bs lent back : List ℕ} → v.items ≡ bs → lent ≡ bs
    → length back ≡ length lent → back ≡ f lent → (with_items v back).items ≡ f bs
came-back v f {back = back} same from long e = with_items_is v back (long ∙ ap length (from ∙ sym same) ∙ sym v.ok.0)
    ∙ e ∙ ap f from

-- a row is written behind the n that are counted
module _ (bs : List ℕ) (n id : ℕ) (t : List ℕ) (room : n < capacity_of bs) (long : length t ≡ 384)
    (small : id < 2 ^ 16) where
  abbrev added : List ℕ
  added = written bs n (row_of id t)

  long-row : length (row_of id t) ≡ 386
  long-row = simp towards_numerals (omega arith)

  length-added : length added ≡ length bs
  length-added = length-paste bs (n * 386) (row_of id t) 386 (omega arith) (omega (arith, long-row))

  row_before : (k : ℕ) → k < n → row_at added k ≡ row_at bs k
  row_before k h = let m = length-added in
      same_row added bs k k (omega arith) (omega arith) (λ i d l. grind (arith, places))

  row-added : row_at added n ≡ row_of id t
  row-added =
      ap (λ b. row_at b n) (paste_all bs (n * 386) (row_of id t) 386 (sym long-row))
      ∙ ap (take 386) (drop_at (take (n * 386) bs) (row_of id t ++ drop (n * 386 + 386) bs) (n * 386)
      (length-take-le (n * 386) bs (omega arith)))
      ∙ take_at (row_of id t) (drop (n * 386 + 386) bs) 386 long-row

  held-added : held_in (row_of id t) ≡ record { id = id; template = t }
  held-added = ap (λ i. record { id = i; template = t }) (omega arith)

  rows_before : rows_in added n ≡ rows_in bs n
  rows_before =
      let a = rows_length added n in
      same_lists (rows_in added n) (rows_in bs n) (a ∙ sym (rows_length bs n))
      (λ k d l. let l' : k < n = omega arith in
      row-there added n k d l' ∙ ap held_in (row_before k l') ∙ sym (row-there bs n k d l'))

  rows-added : rows_in added (n + 1) ≡ rows_in bs n ++ (record { id = id; template = t }) ∷ []
  rows-added =
      map-range_with_len_more (λ k. held_in (row_at added k)) 0 n n (omega arith)
      ∙ ap (λ h. h ++ held_in (row_at added n) ∷ []) rows_before
      ∙ ap (λ e. rows_in bs n ++ e ∷ []) (ap held_in row-added ∙ held-added)

  sound-added : 0 < id → AllSound bs n → AllSound added (n + 1)
  sound-added some sound =
      each-sound added (n + 1)
      (rw rows-added (All-push (Sound 384) (rows_in bs n) (record { id = id; template = t }) (all_sound bs n sound)
      (some, small, long)))

  pub chip-added : {Z : Type 0} (v : Vec ℕ Z) {lent back : List ℕ} → v.items ≡ bs → lent ≡ bs
      → length back ≡ length lent
      → back ≡ written lent n (row_of id t) → 0 < id → AllSound bs n
      → Chip (with_items v back).items (n + 1) (rows_in bs n ++ (record { id = id; template = t }) ∷ [])
      (capacity_of bs)
  chip-added v same from long' wrote some sound =
      let room' = same-capacity added bs length-added in
      rw (came-back v (λ b. written b n (row_of id t)) same from long' wrote)
      (record { fits = omega arith; sound = sound-added some sound; holds = rows-added; room = room' })

-- to move all rows of a part but its first is to move those past p
first-closed : (xs : List ℕ) (m : ℕ) → let part = take (386 + m) xs in
    (take m (drop 386 part) ++ drop m part) ++ drop (386 + m) xs ≡ take m (drop 386 xs) ++ drop m xs
first-closed xs m =
    let front : take m (drop 386 (take (386 + m) xs)) ≡ take m (drop 386 xs) = ap (take m) (drop-take 386 m xs)
    ∙ take_all m _ (omega (arith, length-take m (drop 386 xs))) in
    let turn : drop m (take (386 + m) xs) ≡ take 386 (drop m xs) = ap (λ k. drop m (take k xs)) (add_comm 386 m)
    ∙ drop-take m 386 xs in
    let rest : take 386 (drop m xs) ++ drop (386 + m) xs ≡ drop m xs =
    ap (λ l. take 386 (drop m xs) ++ l) (ap (λ k. drop k xs) (add_comm 386 m) ∙ sym (drop-drop 386 m xs))
    ∙ take-append-drop 386 (drop m xs) in
    rw (front, turn)
    (append_assoc (take m (drop 386 xs)) (take 386 (drop m xs)) (drop (386 + m) xs)
    ∙ ap (λ l. take m (drop 386 xs) ++ l) rest)

pub closed-within : (bs : List ℕ) (n p : ℕ) → p < n → n * 386 ≤ length bs
    → put_mid (p * 386) (n * 386 - p * 386) bs (closed_first (take (n * 386 - p * 386) (drop (p * 386) bs)))
    ≡ closed bs n p
closed-within bs n p inside long =
    let a = p * 386 in
    let xs = drop a bs in
    let m = n * 386 - (a + 386) in
    let size : n * 386 - a ≡ 386 + m = omega arith in
    let moves : length (take (386 + m) xs) - 386 ≡ m =
    omega (arith, length-take-le (386 + m) xs (omega (arith, length-drop a bs))) in
    let from : drop (a + 386) bs ≡ drop 386 xs = sym (drop-drop 386 a bs) in
    let rest : drop (a + m) bs ≡ drop m xs = sym (drop-drop m a bs) in
    rw (size, moves, zero-add m, from, rest)
    (ap (λ l. take a bs ++ l) (first-closed xs m) ∙ sym (append_assoc (take a bs) (take m (drop 386 xs)) (drop m xs)))

-- the counted rows past p move down by one
module _ (bs : List ℕ) (n p : ℕ) (fits : n ≤ capacity_of bs) (inside : p < n) where
  abbrev moved : List ℕ
  moved = closed bs n p

  length_moved : length moved ≡ length bs
  length_moved =
      length-paste bs (p * 386) (drop (p * 386 + 386) bs) (n * 386 - (p * 386 + 386)) (omega arith)
      (omega (arith, length-drop (p * 386 + 386) bs))

  row_below : (k : ℕ) → k < p → row_at moved k ≡ row_at bs k
  row_below k h = let m = length_moved in
      same_row moved bs k k (omega arith) (omega arith) (λ i d l. grind (arith, places))

  row-above : (k : ℕ) → p ≤ k → k + 1 < n → row_at moved k ≡ row_at bs (k + 1)
  row-above k h h' = let m = length_moved in
      same_row moved bs k (k + 1) (omega arith) (omega arith) (λ i d l. grind (arith, places))

  rows-moved : rows_in moved (n - 1) ≡ remove (rows_in bs n) p
  rows-moved =
      let a = rows_length moved (n - 1) in
      let b = rows_length bs n in
      let there : p < length (rows_in bs n) = omega arith in
      same_lists _ _ (omega (arith, length-remove (rows_in bs n) p there))
      (λ k d l. let l' : k < n - 1 = omega arith in row-there moved (n - 1) k d l' ∙ ⊎_elim
      (λ (h : k < p). ap held_in (row_below k h) ∙ sym (row-there bs n k d (omega arith))
      ∙ sym (get_or-remove_below (rows_in bs n) p d k h there))
      (λ (h : p ≤ k).
      ap held_in (row-above k h (omega arith)) ∙ sym (row-there bs n (k + 1) d (omega arith))
      ∙ sym (get_or-remove_above (rows_in bs n) p d k h there))
      (cases_lt k p))

  sound-moved : AllSound bs n → AllSound moved (n - 1)
  sound-moved sound =
      let h = rows_in bs n in
      let all = all_sound bs n sound in
      each-sound moved (n - 1)
      (rw rows-moved (All-append (Sound 384) (take p h) (drop (suc p) h) (All-take (Sound 384) p h all)
      (All-drop (Sound 384) (suc p) h all)))

  pub chip-moved : {Z : Type 0} (v : Vec ℕ Z) {lent back : List ℕ} → v.items ≡ bs → lent ≡ bs
      → length back ≡ length lent
      → back ≡ closed lent n p → AllSound bs n
      → Chip (with_items v back).items (n - 1) (remove (rows_in bs n) p) (capacity_of bs)
  chip-moved v same from long wrote sound =
      let room = same-capacity moved bs length_moved in
      rw (came-back v (λ b. closed b n p) same from long wrote)
      (record { fits = omega arith; sound = sound-moved sound; holds = rows-moved; room = room })
