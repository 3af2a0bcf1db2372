-- The step of a loop that writes bytes as digits, and what it wrote, read again.
use Rattle.std.proofs.Common.{◌≡◌, ℕ, ◌+◌, ◌/◌, ◌%◌, ◌<◌, ◌≤◌, List, [], ◌∷◌, ◌++◌, length, get_or, take, drop, Ok, sym, refl, ap, ◌∙◌}
use Rattle.std.proofs.lemmas.List.{append_assoc, drop_at, take_all, take_more}
use Rattle.std.specs.List.{All}
use Rattle.digits.specs.Digits.{digit_of, hex_bytes, hex_text}
use Rattle.digits.proofs.Pairs.{read-back}

hex-append : (xs ys : List ℕ) → hex_text (xs ++ ys) ≡ hex_text xs ++ hex_text ys
hex-append [] ys = refl
hex-append (x ∷ xs) ys = ap (λ t. digit_of (x / 16) ∷ digit_of (x % 16) ∷ t) (hex-append xs ys)

pub pair-more : (text before once twice bytes : List ℕ) (i high low : ℕ) → i < length bytes
    → before ≡ text ++ hex_text (take i bytes) → once ≡ before ++ high ∷ [] → twice ≡ once ++ low ∷ []
    → high ≡ digit_of (get_or bytes i 0 / 16) → low ≡ digit_of (get_or bytes i 0 % 16)
    → twice ≡ text ++ hex_text (take (i + 1) bytes)
pair-more text before once twice bytes i high low lt inv e f h l =
    f ∙ ap (λ t. t ++ low ∷ []) (e ∙ ap (λ t. t ++ high ∷ []) inv)
    ∙ append_assoc (text ++ hex_text (take i bytes)) (high ∷ []) (low ∷ []) ∙ append_assoc text (hex_text (take i bytes)) (high ∷ low ∷ [])
    ∙ ap (λ t. text ++ (hex_text (take i bytes) ++ t)) (ap (λ n. n ∷ low ∷ []) h ∙ ap (λ n. digit_of (get_or bytes i 0 / 16) ∷ n ∷ []) l)
    ∙ ap (λ t. text ++ t) (sym (hex-append (take i bytes) (get_or bytes i 0 ∷ [])) ∙ ap hex_text (sym (take_more bytes i 0 lt)))

-- what stands behind the text reads as the bytes
pub reads-back : (text before bytes out : List ℕ) (n i : ℕ) → length text ≡ n → before ≡ text → length bytes ≤ i
    → out ≡ before ++ hex_text (take i bytes) → All (λ b. b < 256) bytes → hex_bytes (drop n out) ≡ Ok bytes
reads-back text before bytes out n i l same all e fits =
    ap (λ t. hex_bytes (drop n t)) (e ∙ ap (λ t. t ++ hex_text (take i bytes)) same ∙ ap (λ bs. text ++ hex_text bs) (take_all i bytes all))
    ∙ ap hex_bytes (drop_at text (hex_text bytes) n l) ∙ read-back 0 bytes fits
