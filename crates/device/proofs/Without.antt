-- The templates of an ID are taken out, the oldest first.
use Rattle.std.proofs.Common.{◌≡◌, ℕ, ◌+◌, ◌-◌, ◌<◌, Bool, true, false, cond, eqb, List, [], ◌∷◌, ◌++◌, length, take}
use Rattle.std.proofs.Common.{drop, Some, None, sym, refl, ap, ◌∙◌, append-nil, arith}
use Rattle.memory.specs.Held.{Held, held_at, id_at, none, remove_after}
use Rattle.machine.specs.Searches.{without}
use Rattle.std.specs.List.{remove}
use Rattle.std.proofs.lemmas.List.{append_assoc, drop_more, length-append, take_more}
use Rattle.std.proofs.lemmas.List.Edits.{remove-append_right}
use Rattle.std.proofs.Math.Seq.{get_or-append_seam}
use Rattle.std.proofs.lemmas.Bool.{eq-eqb, lt-ltb, ne_eqb}

pub without-append : (id : ℕ) (g h : List Held) → without id (g ++ h) ≡ without id g ++ without id h
without-append id [] h = refl
without-append id (e ∷ g) h = at (eqb e.id id) (without-append id g h)
  where
    at : (b : Bool) → without id (g ++ h) ≡ without id g ++ without id h
        → cond b (without id (g ++ h)) (e ∷ without id (g ++ h)) ≡ cond b (without id g) (e ∷ without id g) ++ without id h
    at true r = r
    at false r = ap (λ l. e ∷ l) r

-- of the first `seen` templates the ID's are gone, the others stand in front of `place`, and nothing else was taken out
abbrev pub Cleared : ℕ → List Held → ℕ → ℕ → List Held → Type 0
Cleared id before seen place now =
    (now ≡ without id (take seen before) ++ drop seen before) × (length (without id (take seen before)) ≡ place)

module _ (id : ℕ) (before h : List Held) (seen place : ℕ) (inside : seen < length before) (k : Cleared id before seen place h) where
  abbrev e : Held
  e = held_at before seen

  abbrev front : List Held
  front = without id (take seen before)

  abbrev behind : List Held
  behind = drop (seen + 1) before

  split : h ≡ front ++ (e ∷ behind)
  split = k.0 ∙ ap (λ x. front ++ x) (drop_more before seen none inside)

  more : without id (take (seen + 1) before) ≡ front ++ cond (eqb e.id id) [] (e ∷ [])
  more = ap (without id) (take_more before seen none inside) ∙ without-append id (take seen before) (e ∷ [])

  length-split : place < length (front ++ (e ∷ behind))
  length-split = let f = k.1 in rw (length-append front (e ∷ behind)) (omega arith)

  -- what stands at the place is the next one
  pub there : id_at h place ≡ Some e.id
  there =
      rw split
      (ap (λ b. cond b (Some (held_at (front ++ (e ∷ behind)) place).id) None) (lt-ltb place _ length-split)
      ∙ ap (λ n. Some (held_at (front ++ (e ∷ behind)) n).id) (sym k.1)
      ∙ ap (λ (x : Held). Some x.id) (get_or-append_seam front e behind none))

  -- one of the ID's goes
  pub taken : e.id ≡ id → (after : List Held) → after ≡ remove_after h place → Cleared id before (seen + 1) place after
  taken same after r =
      let m = more ∙ ap (λ b. front ++ cond b [] (e ∷ [])) (eq-eqb e.id id same) in
      let f : without id (take (seen + 1) before) ≡ front = m ∙ append-nil front in (
        r ∙ rw split
            (ap (λ b. cond b (remove (front ++ (e ∷ behind)) place) (front ++ (e ∷ behind))) (lt-ltb place _ length-split)
            ∙ remove-append_right front (e ∷ behind) place place k.1 (omega arith)
            ∙ ap (λ n. front ++ remove (e ∷ behind) n) (let z : place - place ≡ 0 = omega arith in z)
            ∙ ap (λ x. x ++ behind) (sym f)),
        ap length f ∙ k.1,
      )

  -- another's stays
  pub passed : (e.id ≡ id → ⊥) → Cleared id before (seen + 1) (place + 1) h
  passed differs =
      let m = more ∙ ap (λ b. front ++ cond b [] (e ∷ [])) (ne_eqb e.id id differs) in (
        split ∙ sym (append_assoc front (e ∷ []) behind) ∙ ap (λ x. x ++ behind) (sym m),
        ap length m ∙ length-append front (e ∷ []) ∙ ap (λ n. n + 1) k.1,
      )
