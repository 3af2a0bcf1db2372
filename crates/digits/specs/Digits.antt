use Rattle.std.specs.Prelude.{◌≡◌, ℕ, ◌+◌, ◌-◌, ◌*◌, ◌/◌, ◌%◌, Bool, cond, ◌&&◌, List, [], ◌∷◌, Some, None, Ok, Err}
use Rattle.std.specs.Prelude.{Option, Result, nat_le, nat_lt}
use Rattle.digits.specs.declared.Fault.{Fault}
use Rattle.digits.specs.declared.Fault.TheVariants.{NoDigit, Odd, Memory}

abbrev pub within : ℕ → ℕ → ℕ → Bool
within low high c = nat_le low c && nat_le c high

-- the value of one of the characters 0 to 9 and A to F
abbrev pub digit_value : ℕ → Option ℕ
digit_value c = cond (within 48 57 c) (Some (c - 48)) (cond (within 65 70 c) (Some (c - 55)) None)

-- the character of a value below 16
abbrev pub digit_of : ℕ → ℕ
digit_of n = cond (nat_lt n 10) (n + 48) (n + 55)

-- the digits of some bytes
abbrev pub hex_text : List ℕ → List ℕ
hex_text [] = []
hex_text (b ∷ bs) = digit_of (b / 16) ∷ digit_of (b % 16) ∷ hex_text bs

abbrev pub or_no_digit : ℕ → Option ℕ → Result ℕ Fault
or_no_digit at (Some n) = Ok n
or_no_digit at None = Err (NoDigit at)

-- the digit at a place
abbrev pub digit_from : ℕ → ℕ → Result ℕ Fault
digit_from at c = or_no_digit at (digit_value c)

abbrev pub and_then : {X : Type 0} → Result ℕ Fault → (ℕ → Result X Fault) → Result X Fault
and_then (Ok n) f = f n
and_then (Err e) f = Err e

-- the byte of the two digits from a place on
abbrev pub byte_from : ℕ → ℕ → ℕ → Result ℕ Fault
byte_from at high low = and_then (digit_from at high) (λ h. and_then (digit_from (at + 1) low) (λ l. Ok (h * 16 + l)))

abbrev pub before : ℕ → Result (List ℕ) Fault → Result (List ℕ) Fault
before b (Ok bs) = Ok (b ∷ bs)
before b (Err e) = Err e

-- the bytes of the digits from a place on; a fault is the first character that is no digit, or else an odd last digit
abbrev pub bytes_from : ℕ → List ℕ → Result (List ℕ) Fault
bytes_from at [] = Ok []
bytes_from at (c ∷ []) = and_then (digit_from at c) (λ _. Err Odd)
bytes_from at (high ∷ low ∷ rest) = and_then (byte_from at high low) (λ b. before b (bytes_from (at + 2) rest))

abbrev pub hex_bytes : List ℕ → Result (List ℕ) Fault
hex_bytes digits = bytes_from 0 digits

-- a fault is the text's, but for want of memory
abbrev pub Because : Fault → Result (List ℕ) Fault → Type 0
Because (NoDigit at) r = r ≡ Err (NoDigit at)
Because Odd r = r ≡ Err Odd
Because (Memory of) r = Unit {0}
