-- A refusal leaves some bytes where it leaves those at their front, which were lent.
use Rattle.std.proofs.Common.{◌≡◌, ℕ, List, ◌++◌, take, drop, Ok, Err, Result, ap, ◌∙◌}
use Rattle.std.proofs.lemmas.List.{take-append-drop}
use Rattle.std.specs.Result.{OnErr}

pub left_whole : {X E : Type 0} (r : Result X E) (n : ℕ) (bytes front after : List ℕ) → front ≡ take n bytes
    → OnErr r (after ≡ front) → OnErr r (after ++ drop n bytes ≡ bytes)
left_whole (Ok x) n bytes front after first same = same
left_whole (Err e) n bytes front after first same =
    ap (λ l. l ++ drop n bytes) (same ∙ first) ∙ take-append-drop n bytes
