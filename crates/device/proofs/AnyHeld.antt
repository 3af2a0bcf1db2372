-- What any held template says, where the work buffer has room for one.
use Rattle.std.proofs.Common.{◌≡◌, ℕ, ◌≤◌, Bool, true, ◌&&◌, leb, List, ap, ◌∙◌, arith}
use Rattle.machine.specs.Searches.{agrees, any_agrees}
use Rattle.machine.specs.State.{State}
use Rattle.memory.specs.Held.{Held}
use Rattle.search.specs.Oldest.{any_of}
use Rattle.std.proofs.lemmas.Bool.{le-leb}

module _ (s : State) (scan : List ℕ) (size room : ℕ) (r : Bool) (asks : List ℕ → Bool) (h : List Held)
    (e : r ≡ leb size room && any_of (λ x. asks x.template) h) (same : asks ≡ agrees s scan) (all : h ≡ s.held) where
  pub any_value : r ≡ leb size room && any_agrees s scan
  any_value =
      e ∙ ap (λ (ok : List ℕ → Bool). leb size room && any_of (λ x. ok x.template) h) same
      ∙ ap (λ l. leb size room && any_of (λ x. agrees s scan x.template) l) all

  pub any-enough : size ≤ 384 → 384 ≤ room → r ≡ any_agrees s scan
  any-enough small long =
      let t : leb size room ≡ true = le-leb size room (omega arith) in any_value ∙ ap (λ b. b && any_agrees s scan) t
