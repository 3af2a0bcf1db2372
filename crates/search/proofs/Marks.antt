-- Marks of the IDs that some template has.
use Rattle.std.proofs.Common.{◌≡◌, ℕ, ◌+◌, ◌-◌, ◌<◌, ◌≤◌, Bool, false, not, eqb, List, length, get_or, take, drop, ap, ◌∙◌, arith}
use Rattle.std.proofs.lemmas.List.{get_or-drop, length-drop, take_all}
use Rattle.std.proofs.lemmas.List.Sums.{prefix_len_is}
use Rattle.std.proofs.lemmas.Bool.{eq-eqb, ne_eqb}
use Rattle.std.specs.List.{prefix_len}
use Rattle.std.proofs.lemmas.List.Folds.{length-prefix_len}
use Rattle.memory.specs.Held.{Held}
use Rattle.search.specs.Ids.{count_of, lowest_free}
use Rattle.search.proofs.Laws.{lowest-free, lowest-within}

-- the ID has some template
abbrev has : List Held → ℕ → Bool
has h id = not (eqb (count_of id h) 0)

-- each ID below the number of marks is marked where it has some template
abbrev pub Marked : ℕ → List Bool → List Held → Type 0
Marked n marks h = (length marks ≡ n) × ((id : ℕ) → id < n → get_or marks id false ≡ has h id)

-- behind the mark of 0, as many are set as there are IDs below the lowest that is free
pub lowest-marked : (h : List Held) (marks : List Bool) → length marks ≡ 502 → length h ≤ 500
    → ((id : ℕ) → id < 502 → get_or marks id false ≡ has h id)
    → (n : ℕ) → n ≡ length (take (prefix_len (λ b. b) (take 501 (drop 1 marks))) (take 501 (drop 1 marks))) → 1 + n ≡ lowest_free h
lowest-marked h marks long few marked n e =
    let low = lowest-free h in
    let most = lowest-within h in
    let some = low.some_id in
    let rest = length-drop 1 marks in
    let all : take 501 (drop 1 marks) ≡ drop 1 marks = take_all 501 (drop 1 marks) (omega arith) in
    let first = prefix_len_is (λ (b : Bool). b) (drop 1 marks) (lowest_free h - 1) false (omega arith)
    (λ k l. get_or-drop 1 marks k false ∙ marked (1 + k) (omega arith)
    ∙ ap not (ne_eqb _ 0 (low.lower (1 + k) (omega arith) (omega arith))))
    (λ _. get_or-drop 1 marks (lowest_free h - 1) false ∙ marked (1 + (lowest_free h - 1)) (omega arith)
    ∙ ap (has h) (omega arith) ∙ ap not (eq-eqb _ 0 low.free)) in
    let passed : n ≡ prefix_len (λ (b : Bool). b) (drop 1 marks) =
    e ∙ ap (λ l. length (take (prefix_len (λ b. b) l) l)) all ∙ length-prefix_len (λ (b : Bool). b) (drop 1 marks) in
    omega (arith, first, passed)
