-- A template that is copied straight into the answer buffer.
use Rattle.std.proofs.Common.{◌≡◌, ℕ, ◌<◌, ◌≤◌, List, ◌++◌, length, drop, unwrap_or, sym, ap, ◌∙◌, ⊎_elim, arith}
use Rattle.memory.specs.Held.{Held, Sound, copy_after, copy_answer, held_at, none}
use Rattle.memory.proofs.Cases.{copy-past, copy-there}
use Rattle.std.specs.List.{AllByRecursion}
use Rattle.std.proofs.ByRecursion.{All-get_or}
use Rattle.std.proofs.lemmas.List.{get_or_past}
use Rattle.std.proofs.lemmas.Bool.{cases_lt}

pub copied : (size : ℕ) (h : List Held) (place : ℕ) (out after : List ℕ) (n : ℕ) → AllByRecursion (Sound size) h
    → length (held_at h place).template ≤ length out → n ≡ unwrap_or (copy_answer size h place out) 0 → after ≡ copy_after size h place out
    → (n ≡ length (held_at h place).template) × (after ≡ (held_at h place).template ++ drop n out)
copied size h place out after n sound fits e f = ⊎_elim there past (cases_lt place (length h))
  where
    there : place < length h → (n ≡ length (held_at h place).template) × (after ≡ (held_at h place).template ++ drop n out)
    there l =
        let w = All-get_or (Sound size) h place none l sound in
        let long : size ≤ length out = omega (arith, w.2, fits) in
        let k = copy-there h place size out l long in
        let m : n ≡ size = e ∙ ap (λ o. unwrap_or o 0) (sym k.0) in
        (m ∙ sym w.2, f ∙ sym k.1 ∙ ap (λ j. (held_at h place).template ++ drop j out) (sym m))

    past : length h ≤ place → (n ≡ length (held_at h place).template) × (after ≡ (held_at h place).template ++ drop n out)
    past l =
        let k = copy-past h place size out l in
        let z : held_at h place ≡ none = get_or_past h place none l in
        let m : n ≡ 0 = e ∙ ap (λ o. unwrap_or o 0) (sym k.0) in (
          m ∙ sym (ap (λ x. length x.template) z),
          f ∙ sym k.1 ∙ ap (λ j. drop j out) (sym m) ∙ ap (λ x. x.template ++ drop n out) (sym z),
        )
