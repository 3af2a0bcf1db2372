-- The tests of an enrolment, and what it puts into a memory that has room for it.
use Rattle.std.proofs.Common.{◌≡◌, ℕ, suc, ◌+◌, ◌-◌, ◌<◌, ◌≤◌, Bool, true, false, cond, not, ◌&&◌, eqb, ltb, List, []}
use Rattle.std.proofs.Common.{◌∷◌, ◌++◌, length, Some, None, sym, refl, ap, ◌∙◌, arith}
use Rattle.codes.specs.declared.code.Code.TheVariants.{ExistId, FingerLimit, MemFull}
use Rattle.codes.specs.declared.flag.EnrollFlag.{EnrollFlag}
use Rattle.codes.specs.declared.flag.EnrollFlag.TheVariants.{Replace, CheckId, AddNew, AutoId, CheckFinger}
use Rattle.memory.specs.Held.{Held, add_after}
use Rattle.memory.proofs.Cases.{add-there}
use Rattle.std.proofs.lemmas.List.{append_assoc, length-append}
use Rattle.search.proofs.Laws.{lowest-free}
use Rattle.search.specs.Ids.{count_of, lowest_free}
use Rattle.std.proofs.lemmas.Bool.Decides.{nat_tests}
use Rattle.machine.specs.Enrollment.{adds, enroll_fault, enroll_id, needs_none, staying}
use Rattle.machine.specs.Ids.{is_id}
use Rattle.machine.specs.State.{State}
use Rattle.machine.specs.Searches.{without}

pub length-without : (id : ℕ) (h : List Held) → length (without id h) ≤ length h
length-without id [] = omega arith
length-without id (e ∷ h) = at (eqb e.id id) (length-without id h)
  where
    at : (b : Bool) → length (without id h) ≤ length h → length (cond b (without id h) (e ∷ without id h)) ≤ suc (length h)
    at true r = omega arith
    at false r = omega arith

length-staying : (flag : EnrollFlag) (id : ℕ) (h : List Held) → length (staying flag id h) ≤ length h
length-staying Replace id h = length-without id h
length-staying CheckId id h = omega arith
length-staying AddNew id h = omega arith
length-staying AutoId id h = omega arith
length-staying CheckFinger id h = omega arith

module _ (size room : ℕ) (h : List Held) (flag : EnrollFlag) (id : ℕ) (some : 0 < id) where
  abbrev stays : List Held
  stays = staying flag id h

  abbrev new : List ℕ → Held
  new t = record { id = id; template = t }

  -- one template is put last
  pub enrolls-one : (t : List ℕ) → 1 ≤ room - length h → length t ≡ size → add_after size room stays id t ≡ stays ++ new t ∷ []
  enrolls-one t free long =
      let few = length-staying flag id h in sym (add-there size room stays id t (λ e. omega arith) long (omega arith)).1

  -- and a second behind it
  pub enrolls-two : (t u : List ℕ) → 2 ≤ room - length h → length t ≡ size → length u ≡ size
      → add_after size room (add_after size room stays id t) id u ≡ stays ++ new t ∷ new u ∷ []
  enrolls-two t u free long long' =
      let few = length-staying flag id h in
      let n = length-append stays (new t ∷ []) in
      ap (λ x. add_after size room x id u) (enrolls-one t (omega arith) long)
      ∙ sym (add-there size room (stays ++ new t ∷ []) id u (λ e. omega arith) long' (omega arith)).1
      ∙ append_assoc stays (new t ∷ []) (new u ∷ [])

-- the three tests of an enrolment, none of which failed
pub record Passed (a b c : Bool) : Type 0 where
  pub first : a ≡ false
  pub next : b ≡ false
  pub last : c ≡ false

pub passed : (a b c : Bool) → cond a (Some ExistId) (cond b (Some FingerLimit) (cond c (Some MemFull) None)) ≡ None → Passed a b c
passed true b c e = absurd (let z : ◌≡◌ {A = ℕ} 0 1 = cc in omega arith)
passed false true c e = absurd (let z : ◌≡◌ {A = ℕ} 0 1 = cc in omega arith)
passed false false true e = absurd (let z : ◌≡◌ {A = ℕ} 0 1 = cc in omega arith)
passed false false false e = record { first = refl; next = refl; last = refl }

-- so it is for an ID, and the places that it needs are free
pub tests-passed : (s : State) (flag : EnrollFlag) (param id needed : ℕ) → enroll_id s flag param ≡ Some id
    → enroll_fault s flag id needed ≡ None → (0 < id) × (needed ≤ s.room - length s.held)
tests-passed s flag param id needed i e = (some flag i, free)
  where
    in_param : (b : Bool) → is_id param ≡ b → cond b (Some param) None ≡ Some id → 0 < id
    in_param true q e = let z : param ≡ id = cc in grind (arith, nat_tests)
    in_param false q e = absurd (let z : ◌≡◌ {A = ℕ} 0 1 = cc in omega arith)

    some : (f : EnrollFlag) → enroll_id s f param ≡ Some id → 0 < id
    some Replace i = in_param (is_id param) refl i
    some CheckId i = in_param (is_id param) refl i
    some AddNew i = in_param (is_id param) refl i
    some AutoId i = let z : lowest_free s.held ≡ id = cc in omega (arith, (lowest-free s.held).some_id)
    some CheckFinger i = in_param (is_id param) refl i

    p : Passed (needs_none flag && not (eqb (count_of id s.held) 0)) (adds flag && ltb 10 (count_of id s.held + needed))
        (ltb (s.room - length s.held) needed)
    p = passed _ _ _ e

    free : needed ≤ s.room - length s.held
    free = let z : ltb (s.room - length s.held) needed ≡ false = p.last in grind (arith, nat_tests)
