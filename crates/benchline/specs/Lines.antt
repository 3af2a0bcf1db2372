-- What a bench line asks, or why it asks nothing.
use Rattle.std.specs.Prelude.{◌≡◌, ℕ, ◌+◌, Bool, cond, List, [], ◌∷◌, Some, None, Ok, Err, Option, Result}
use Rattle.std.specs.Prelude.{is_none, position, slice_index, ◌==◌}
use Rattle.digits.specs.Digits.{digit_value, hex_bytes, hex_text}
use Rattle.digits.specs.declared.Fault.{Fault}
use Rattle.benchline.specs.declared.Line.{Line}
use Rattle.benchline.specs.declared.Line.TheVariants.{Packet, Finger, Second}
use Rattle.benchline.specs.declared.fault.IllFormed.{IllFormed}
use Rattle.benchline.specs.declared.fault.IllFormed.TheVariants.{Empty, Misplaced, NoBlank, OddDigits, NoQuality}
use Rattle.benchline.specs.declared.fault.Unread.{Unread}
use Rattle.benchline.specs.declared.fault.Unread.TheVariants.{Memory, Line as Unasked}

-- a frame; a finger's quality and scan; a second
pub data Asked : Type 0 where
  packet : List ℕ → Asked
  finger : ℕ → List ℕ → Asked
  second : Asked

-- the characters P, F, S and the blank
abbrev pub letter_p : ℕ
letter_p = 80

abbrev pub letter_f : ℕ
letter_f = 70

abbrev pub letter_s : ℕ
letter_s = 83

abbrev pub blank : ℕ
blank = 32

abbrev pub is_no_digit : ℕ → Bool
is_no_digit c = is_none (digit_value c)

-- the first of some characters that is no digit; a letter and a blank stand before them
abbrev pub digits_fault_at : List ℕ → Option ℕ → IllFormed
digits_fault_at digits (Some at) = Misplaced (at + 2) (slice_index digits at)
digits_fault_at digits None = OddDigits

-- why characters are no bytes: one of them is no digit, or else there is an odd number of them
abbrev pub digits_fault : List ℕ → IllFormed
digits_fault digits = digits_fault_at digits (position is_no_digit digits)

abbrev pub bytes_of : List ℕ → Result (List ℕ) Fault → Result (List ℕ) IllFormed
bytes_of digits (Ok bytes) = Ok bytes
bytes_of digits (Err e) = Err (digits_fault digits)

-- the bytes whose digits stand behind one blank
abbrev pub bytes_behind : List ℕ → Result (List ℕ) IllFormed
bytes_behind [] = Err NoBlank
bytes_behind (c ∷ digits) = cond (c == blank) (bytes_of digits (hex_bytes digits)) (Err (Misplaced 1 c))

abbrev pub packet_of : Result (List ℕ) IllFormed → Result Asked IllFormed
packet_of (Ok frame) = Ok (packet frame)
packet_of (Err e) = Err e

-- a finger has its quality first
abbrev pub finger_of : Result (List ℕ) IllFormed → Result Asked IllFormed
finger_of (Ok (quality ∷ scan)) = Ok (finger quality scan)
finger_of (Ok []) = Err NoQuality
finger_of (Err e) = Err e

-- nothing stands behind the letter of a second
abbrev pub alone : List ℕ → Result Asked IllFormed
alone [] = Ok second
alone (c ∷ cs) = Err (Misplaced 1 c)

abbrev pub asked : ℕ → List ℕ → Result Asked IllFormed
asked letter rest =
    cond (letter == letter_p) (packet_of (bytes_behind rest))
    (cond (letter == letter_f) (finger_of (bytes_behind rest))
    (cond (letter == letter_s) (alone rest) (Err (Misplaced 0 letter))))

-- what a line asks, or the first reason why it is ill-formed
abbrev pub bench_line : List ℕ → Result Asked IllFormed
bench_line [] = Err Empty
bench_line (letter ∷ rest) = asked letter rest

-- the line that asks this: there is only one
abbrev pub line_text : Asked → List ℕ
line_text (packet frame) = letter_p ∷ blank ∷ hex_text frame
line_text (finger quality scan) = letter_f ∷ blank ∷ hex_text (quality ∷ scan)
line_text second = letter_s ∷ []

-- a line as it was read, with the bytes that it refers to
abbrev pub seen : Line → Asked
seen (Packet frame) = packet frame.now
seen (Finger quality scan) = finger quality scan.now
seen Second = second

-- why a line was not read is what is wrong with it, but for want of memory
abbrev pub Because : {X : Type 0} → Unread → Result X IllFormed → Type 0
Because (Unasked e) r = r ≡ Err e
Because (Memory _) r = Unit {0}
