-- The steps of a loop that reads digits two by two, and what it read, spelled again.
use Rattle.std.proofs.Common.{◌≡◌, ℕ, zero, suc, ◌+◌, ◌*◌, ◌/◌, ◌%◌, ◌<◌, ◌≤◌, List, [], ◌∷◌, ◌++◌, length, get_or}
use Rattle.std.proofs.Common.{take, drop, Some, None, Ok, Err, Option, Result, sym, refl, ap, ◌∙◌, arith}
use Rattle.std.specs.List.{All}
use Rattle.std.specs.Simd.{first_chunks}
use Rattle.std.proofs.lemmas.List.{append_assoc, append-nil, drop-drop, drop_all, length-drop}
use Rattle.std.proofs.lemmas.Bool.Decides.{nat_tests}
use Rattle.digits.specs.declared.Fault.{Fault}
use Rattle.digits.specs.declared.Fault.TheVariants.{NoDigit, Odd, Memory}
use Rattle.digits.specs.Digits.{Because, and_then, before, byte_from, bytes_from, digit_from, digit_of, digit_value, hex_text, or_no_digit}

-- what is read in all, where `done` is read and the rest reads as r
abbrev pub after : List ℕ → Result (List ℕ) Fault → Result (List ℕ) Fault
after done (Ok bs) = Ok (done ++ bs)
after done (Err e) = Err e

glue : (done : List ℕ) (b : ℕ) (r : Result (List ℕ) Fault) → after (done ++ b ∷ []) r ≡ after done (before b r)
glue done b (Ok bs) = ap Ok (append_assoc done (b ∷ []) bs)
glue done b (Err e) = refl

pair-first : (xs : List ℕ) → 2 ≤ length xs → get_or (take 2 xs) 0 0 ∷ get_or (take 2 xs) 1 0 ∷ drop 2 xs ≡ xs
pair-first [] h = absurd (omega arith)
pair-first (x ∷ []) h = absurd (omega arith)
pair-first (x ∷ y ∷ xs) h = refl

pair-at : (k i : ℕ) (xs : List ℕ) → i < k → 2 * k ≤ length xs
    → get_or (get_or (first_chunks 2 k xs) i []) 0 0 ∷ get_or (get_or (first_chunks 2 k xs) i []) 1 0 ∷ drop (2 * (i + 1)) xs
    ≡ drop (2 * i) xs
pair-at zero i xs lt le = absurd (omega arith)
pair-at (suc k) zero xs lt le = pair-first xs (omega arith)
pair-at (suc k) (suc i) xs lt le =
    let fewer : 2 * k ≤ length (drop 2 xs) = omega (arith, length-drop 2 xs) in
    let more : drop (2 * (i + 1)) (drop 2 xs) ≡ drop (2 * (suc i + 1)) xs = drop-drop (2 * (i + 1)) 2 xs
    ∙ ap (λ n. drop n xs) (omega arith) in
    let here : drop (2 * i) (drop 2 xs) ≡ drop (2 * suc i) xs = drop-drop (2 * i) 2 xs ∙ ap (λ n. drop n xs) (omega arith) in
    let p = get_or (first_chunks 2 k (drop 2 xs)) i [] in
    ap (λ t. get_or p 0 0 ∷ get_or p 1 0 ∷ t) (sym more) ∙ pair-at k i (drop 2 xs) (omega arith) fewer ∙ here

-- the byte of the pair at i
abbrev pub byte_at : List (List ℕ) → ℕ → Result ℕ Fault
byte_at pairs i = byte_from (2 * i) (get_or (get_or pairs i []) 0 0) (get_or (get_or pairs i []) 1 0)

-- what is read in all, by the pair at i
by-pair : (xs done : List ℕ) (pairs : List (List ℕ)) (i : ℕ) (r : Result (List ℕ) Fault) → pairs ≡ first_chunks 2 (length xs / 2) xs
    → i < length xs / 2 → after done (bytes_from (2 * i) (drop (2 * i) xs)) ≡ r
    → after done (and_then (byte_at pairs i) (λ b. before b (bytes_from (2 * i + 2) (drop (2 * (i + 1)) xs)))) ≡ r
by-pair xs done pairs i r cut lt inv =
    rw cut (ap (λ t. after done (bytes_from (2 * i) t)) (pair-at (length xs / 2) i xs lt (omega arith)) ∙ inv)

pub one_more : (xs done items : List ℕ) (pairs : List (List ℕ)) (i b : ℕ) (r : Result (List ℕ) Fault)
    → pairs ≡ first_chunks 2 (length xs / 2) xs → i < length xs / 2 → Ok b ≡ byte_at pairs i → items ≡ done ++ b ∷ []
    → after done (bytes_from (2 * i) (drop (2 * i) xs)) ≡ r
    → after items (bytes_from (2 * (i + 1)) (drop (2 * (i + 1)) xs)) ≡ r
one_more xs done items pairs i b r cut lt p e inv =
    let rest = bytes_from (2 * i + 2) (drop (2 * (i + 1)) xs) in
    let place : 2 * (i + 1) ≡ 2 * i + 2 = omega arith in
    ap (λ n. after items (bytes_from n (drop (2 * (i + 1)) xs))) place ∙ ap (λ l. after l rest) e ∙ glue done b rest
    ∙ ap (λ o. after done (and_then o (λ n. before n rest))) p ∙ by-pair xs done pairs i r cut lt inv

because : (e : Fault) (r : Result (List ℕ) Fault) → Err e ≡ r → Because e r
because (NoDigit at) r h = sym h
because Odd r h = sym h
because (Memory of) r h = tt

-- the pair at i is none
pub stops : (xs done : List ℕ) (pairs : List (List ℕ)) (i : ℕ) (e : Fault) (r : Result (List ℕ) Fault)
    → pairs ≡ first_chunks 2 (length xs / 2) xs → i < length xs / 2 → Err e ≡ byte_at pairs i
    → after done (bytes_from (2 * i) (drop (2 * i) xs)) ≡ r → Because e r
stops xs done pairs i e r cut lt p inv =
    let rest = bytes_from (2 * i + 2) (drop (2 * (i + 1)) xs) in
    because e r (ap (λ o. after done (and_then o (λ n. before n rest))) p ∙ by-pair xs done pairs i r cut lt inv)

digit-spelled : (c n : ℕ) → digit_value c ≡ Some n → (digit_of n ≡ c) × (n < 16)
digit-spelled c n e = (grind (arith, nat_tests), grind (arith, nat_tests))

refused : {X Y : Type 0} (e : Fault) (x : X) → Err e ≡ Ok x → Y
refused e x p = let z : ◌≡◌ {A = ℕ} 0 1 = cc in absurd (omega arith)

-- a pair of digits spells its byte
pair-spelled : (at x y : ℕ) (o p : Option ℕ) (r : Result (List ℕ) Fault) (bs rest : List ℕ) → digit_value x ≡ o → digit_value y ≡ p
    → and_then (and_then (or_no_digit at o) (λ h. and_then (or_no_digit (at + 1) p) (λ l. Ok (h * 16 + l)))) (λ b. before b r) ≡ Ok bs
    → ((cs : List ℕ) → r ≡ Ok cs → hex_text cs ≡ rest) → hex_text bs ≡ x ∷ y ∷ rest
pair-spelled at x y None p r bs rest dx dy e more = refused _ _ e
pair-spelled at x y (Some h) None r bs rest dx dy e more = refused _ _ e
pair-spelled at x y (Some h) (Some l) (Err f) bs rest dx dy e more = refused _ _ e
pair-spelled at x y (Some h) (Some l) (Ok cs) bs rest dx dy e more =
    let all : bs ≡ (h * 16 + l) ∷ cs = cc in
    let hs = digit-spelled x h dx in
    let ls = digit-spelled y l dy in
    let high : (h * 16 + l) / 16 ≡ h = omega arith in
    let low : (h * 16 + l) % 16 ≡ l = omega arith in
    ap hex_text all ∙ ap (λ n. digit_of n ∷ digit_of ((h * 16 + l) % 16) ∷ hex_text cs) high
    ∙ ap (λ n. digit_of h ∷ digit_of n ∷ hex_text cs) low
    ∙ ap (λ n. n ∷ digit_of l ∷ hex_text cs) hs.0 ∙ ap (λ n. x ∷ n ∷ hex_text cs) ls.0
    ∙ ap (λ l. x ∷ y ∷ l) (more cs refl)

pub spelled : (at : ℕ) (ds bs : List ℕ) → bytes_from at ds ≡ Ok bs → hex_text bs ≡ ds
spelled at [] bs e = let all : bs ≡ [] = cc in ap hex_text all
spelled at (c ∷ []) bs e = odd (digit_from at c) e
  where
    odd : (r : Result ℕ Fault) → and_then r (λ _. Err Odd) ≡ Ok bs → hex_text bs ≡ c ∷ []
    odd (Ok n) p = refused _ _ p
    odd (Err f) p = refused _ _ p
spelled at (x ∷ y ∷ rest) bs e =
    pair-spelled at x y (digit_value x) (digit_value y) (bytes_from (at + 2) rest) bs rest refl refl e (λ cs h. spelled (at + 2) rest cs h)

-- nothing is left
pub read_all : (at : ℕ) (xs done : List ℕ) (r : Result (List ℕ) Fault) → length xs ≤ at
    → after done (bytes_from at (drop at xs)) ≡ r → r ≡ Ok done
read_all at xs done r h e = sym e ∙ ap (λ l. after done (bytes_from at l)) (drop_all at xs h) ∙ ap Ok (append-nil done)

digit-read : (n : ℕ) → n < 16 → digit_value (digit_of n) ≡ Some n
digit-read n h = grind (arith, nat_tests)

-- the digits of some bytes read as those bytes
pub read-back : (at : ℕ) (bs : List ℕ) → All (λ b. b < 256) bs → bytes_from at (hex_text bs) ≡ Ok bs
read-back at [] h = refl
read-back at (b ∷ bs) h =
    let high = digit-read (b / 16) (omega (arith, h 0 0 (omega arith))) in
    let low = digit-read (b % 16) (omega arith) in
    let whole : b / 16 * 16 + b % 16 ≡ b = omega arith in
    rw (high, low, whole, read-back (at + 2) bs (λ k d l. h (suc k) d (omega arith)))
