-- Where reading digits fails is the first character that is no digit; where all are digits, one is left over.
use Rattle.std.proofs.Common.{◌≡◌, ℕ, ◌+◌, ◌*◌, cond, List, [], ◌∷◌, Some, None, Ok, Err, Option, Result}
use Rattle.std.proofs.Common.{sym, refl, ap, ◌∙◌, arith}
use Rattle.std.specs.Prelude.{is_none, position}
use Rattle.std.specs.List.{position_from}
use Rattle.std.proofs.lemmas.Iterator.Adapters.{position_from-zero}
use Rattle.digits.specs.Digits.{and_then, before, bytes_from, digit_value, hex_bytes, or_no_digit}
use Rattle.digits.specs.declared.Fault.{Fault}
use Rattle.digits.specs.declared.Fault.TheVariants.{NoDigit, Odd}
use Rattle.benchline.specs.Lines.{is_no_digit}

abbrev fault_of : Option ℕ → Fault
fault_of (Some at) = NoDigit at
fault_of None = Odd

abbrev Told : ℕ → List ℕ → Type 0
Told n ds = (e : Fault) → bytes_from n ds ≡ Err e → e ≡ fault_of (position_from is_no_digit n ds)

-- one character more, or two
module _ (n : ℕ) (e : Fault) where
  one : (v : Option ℕ) → and_then {X = List ℕ} (or_no_digit n v) (λ _. Err Odd) ≡ Err e → e ≡ fault_of (cond (is_none v) (Some n) None)
  one None h = cc
  one (Some x) h = cc

  later : (ds : List ℕ) → Told (n + 2) ds → (r : Result (List ℕ) Fault) (x : ℕ) → bytes_from (n + 2) ds ≡ r → before x r ≡ Err e
      → e ≡ fault_of (position_from is_no_digit (n + 1 + 1) ds)
  later ds told (Ok bs) x r h = cc
  later ds told (Err f) x r h =
      let same : f ≡ e = cc in
      let two : n + 2 ≡ n + 1 + 1 = omega arith in
      told e (r ∙ ap (λ g. Err g) same) ∙ ap (λ m. fault_of (position_from is_no_digit m ds)) two

  pair : (ds : List ℕ) → Told (n + 2) ds → (v w : Option ℕ)
      → and_then (and_then (or_no_digit n v) (λ x. and_then (or_no_digit (n + 1) w) (λ y. Ok (x * 16 + y))))
      (λ x. before x (bytes_from (n + 2) ds)) ≡ Err e
      → e ≡ fault_of (cond (is_none v) (Some n) (cond (is_none w) (Some (n + 1)) (position_from is_no_digit (n + 1 + 1) ds)))
  pair ds told None w h = cc
  pair ds told (Some x) None h = cc
  pair ds told (Some x) (Some y) h = later ds told _ (x * 16 + y) refl h

is-first : (n : ℕ) (ds : List ℕ) → Told n ds
is-first n [] e h = cc
is-first n (c ∷ []) e h = one n e (digit_value c) h
is-first n (a ∷ b ∷ ds) e h = pair n e ds (is-first (n + 2) ds) (digit_value a) (digit_value b) h

some-place : (at : ℕ) (p : Option ℕ) → NoDigit at ≡ fault_of p → Some at ≡ p
some-place at (Some k) h = cc
some-place at None h = cc

no_place : (p : Option ℕ) → Odd ≡ fault_of p → None ≡ p
no_place (Some k) h = cc
no_place None h = cc

-- the place that is told is that of the first character that is no digit
pub first_no_digit : (digits : List ℕ) (at : ℕ) → hex_bytes digits ≡ Err (NoDigit at) → Some at ≡ position is_no_digit digits
first_no_digit digits at h =
    some-place at _ (is-first 0 digits (NoDigit at) h) ∙ sym (position_from-zero is_no_digit digits)

pub only_digits : (digits : List ℕ) → hex_bytes digits ≡ Err Odd → None ≡ position is_no_digit digits
only_digits digits h = no_place _ (is-first 0 digits Odd h) ∙ sym (position_from-zero is_no_digit digits)
