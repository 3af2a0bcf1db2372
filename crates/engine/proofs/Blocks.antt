-- The IDs that LT answers, written at the front of the answer buffer.
use Rattle.std.proofs.Common.{◌≡◌, ℕ, ◌-◌, ◌*◌, ◌≤◌, min, List, ◌++◌, map, length, take, drop, refl, sym, ap, ◌∙◌}
use Rattle.std.proofs.Common.{arith}
use Rattle.memory.specs.Held.{Held, block_of}
use Rattle.memory.proofs.Blocks.{four}
use Rattle.packet.specs.Numbers.{bytes32}
use Rattle.std.specs.List.{flat_map}
use Rattle.std.proofs.lemmas.List.{append_assoc, drop-append-le, length-drop, length-map, length-take-le}
use Rattle.std.proofs.lemmas.List.{take-append-drop, take_min}

-- two blocks from a place on are the same where the same number of IDs is there for both
pub same_block : (from m n : ℕ) (h : List Held) → min m (length h - from) ≡ min n (length h - from)
    → block_of from m h ≡ block_of from n h
same_block from m n h e =
    let ids = drop from (map (λ y. y.id) h) in
    let long : length ids ≡ length h - from = simp (length-drop, length-map) refl in
    sym (take_min m ids) ∙ ap (λ k. take k ids) (omega (arith, long)) ∙ take_min n ids

-- IDs that are written at the front of a part of the buffer are written at the front of the buffer
pub block_written : (xs out : List ℕ) (room : ℕ) → 4 * length xs ≤ room → room ≤ length out
    → (flat_map four xs ++ drop (4 * length xs) (take room out)) ++ drop room out ≡ flat_map bytes32 xs
    ++ drop (4 * length xs) out
block_written xs out room few within =
    let n = 4 * length xs in
    append_assoc (flat_map four xs) (drop n (take room out)) (drop room out)
    ∙ ap (λ l. flat_map four xs ++ l)
    (sym (drop-append-le n (take room out) (drop room out) (omega (arith, length-take-le room out within)))
    ∙ ap (drop n) (take-append-drop room out))
