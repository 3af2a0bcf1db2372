-- A byte that is told to be out of place stands at that place.
use Rattle.std.proofs.Common.{◌≡◌, ℕ, ◌+◌, ◌<◌, Bool, true, false, cond, List, [], ◌∷◌, length, get_or, Some, None}
use Rattle.std.proofs.Common.{Ok, Err, Option, Result}
use Rattle.std.proofs.Common.{ap, ◌∙◌, refl, arith, suc}
use Rattle.std.proofs.lemmas.List.Quantifiers.{position-Some}
use Rattle.std.proofs.lemmas.Option.{slice_get-get_or}
use Rattle.std.specs.Prelude.{position, slice_get, slice_index, ◌==◌}
use Rattle.digits.specs.Digits.{hex_bytes}
use Rattle.digits.specs.declared.Fault.{Fault}
use Rattle.benchline.specs.Lines.{alone, bench_line, blank, bytes_behind, bytes_of, digits_fault, digits_fault_at}
use Rattle.benchline.specs.Lines.{finger_of, is_no_digit, letter_f, letter_p, letter_s, packet_of}
use Rattle.benchline.specs.declared.fault.IllFormed.{IllFormed}
use Rattle.benchline.specs.declared.fault.IllFormed.TheVariants.{Misplaced}

digits-there : (a b : ℕ) (digits : List ℕ) (p : Option ℕ) (at byte : ℕ) → position is_no_digit digits ≡ p
    → digits_fault_at digits p ≡ Misplaced at byte → slice_get (a ∷ b ∷ digits) at ≡ Some byte
digits-there a b digits None at byte e h = cc
digits-there a b digits (Some k) at byte e h =
    let within : k < length digits = (position-Some is_no_digit digits k 0 e).0 in
    let place : k + 2 ≡ at = cc in
    let same : slice_index digits k ≡ byte = cc in
    let two : k + 2 ≡ suc (suc k) = omega arith in
    let got : slice_get (a ∷ b ∷ digits) (suc (suc k)) ≡ Some (get_or digits k 0) = slice_get-get_or digits k 0 within in
    rw (← place, ← same, two) got

bytes-there : (a b : ℕ) (digits : List ℕ) (r : Result (List ℕ) Fault) (at byte : ℕ)
    → bytes_of digits r ≡ Err (Misplaced at byte) → slice_get (a ∷ b ∷ digits) at ≡ Some byte
bytes-there a b digits (Ok bytes) at byte h = cc
bytes-there a b digits (Err e) at byte h =
    let fault : digits_fault digits ≡ Misplaced at byte = cc in
    digits-there a b digits _ at byte refl fault

behind-there : (a : ℕ) (rest : List ℕ) (at byte : ℕ) → bytes_behind rest ≡ Err (Misplaced at byte)
    → slice_get (a ∷ rest) at ≡ Some byte
behind-there a [] at byte h = cc
behind-there a (b ∷ digits) at byte h = at-blank a b digits (b == blank) at byte h where
  at-blank : (a b : ℕ) (digits : List ℕ) (t : Bool) (at byte : ℕ)
      → cond t (bytes_of digits (hex_bytes digits)) (Err (Misplaced 1 b)) ≡ Err (Misplaced at byte)
      → slice_get (a ∷ b ∷ digits) at ≡ Some byte
  at-blank a b digits true at byte h = bytes-there a b digits _ at byte h
  at-blank a b digits false at byte h =
      let place : 1 ≡ at = cc in let same : b ≡ byte = cc in rw (← place, ← same) refl

packet-there : (a : ℕ) (rest : List ℕ) (r : Result (List ℕ) IllFormed) (at byte : ℕ) → bytes_behind rest ≡ r
    → packet_of r ≡ Err (Misplaced at byte) → slice_get (a ∷ rest) at ≡ Some byte
packet-there a rest (Ok bytes) at byte e h = cc
packet-there a rest (Err f) at byte e h =
    let is : f ≡ Misplaced at byte = cc in behind-there a rest at byte (e ∙ ap (λ g. Err g) is)

finger-there : (a : ℕ) (rest : List ℕ) (r : Result (List ℕ) IllFormed) (at byte : ℕ) → bytes_behind rest ≡ r
    → finger_of r ≡ Err (Misplaced at byte) → slice_get (a ∷ rest) at ≡ Some byte
finger-there a rest (Ok []) at byte e h = cc
finger-there a rest (Ok (q ∷ scan)) at byte e h = cc
finger-there a rest (Err f) at byte e h =
    let is : f ≡ Misplaced at byte = cc in behind-there a rest at byte (e ∙ ap (λ g. Err g) is)

alone-there : (a : ℕ) (rest : List ℕ) (at byte : ℕ) → alone rest ≡ Err (Misplaced at byte)
    → slice_get (a ∷ rest) at ≡ Some byte
alone-there a [] at byte h = cc
alone-there a (b ∷ bs) at byte h =
    let place : 1 ≡ at = cc in let same : b ≡ byte = cc in rw (← place, ← same) refl

asked-there : (a : ℕ) (rest : List ℕ) (p f s : Bool) (at byte : ℕ)
    → cond p (packet_of (bytes_behind rest))
    (cond f (finger_of (bytes_behind rest)) (cond s (alone rest) (Err (Misplaced 0 a))))
    ≡ Err (Misplaced at byte) → slice_get (a ∷ rest) at ≡ Some byte
asked-there a rest true f s at byte h = packet-there a rest _ at byte refl h
asked-there a rest false true s at byte h = finger-there a rest _ at byte refl h
asked-there a rest false false true at byte h = alone-there a rest at byte h
asked-there a rest false false false at byte h =
    let place : 0 ≡ at = cc in let same : a ≡ byte = cc in rw (← place, ← same) refl

pub misplaced-there : (line : List ℕ) (at byte : ℕ) → bench_line line ≡ Err (Misplaced at byte)
    → slice_get line at ≡ Some byte
misplaced-there [] at byte h = cc
misplaced-there (a ∷ rest) at byte h =
    asked-there a rest (a == letter_p) (a == letter_f) (a == letter_s) at byte h
