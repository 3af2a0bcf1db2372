-- How long texts are.
use Rattle.std.proofs.Common.{◌≡◌, ℕ, ◌+◌, ◌*◌, ◌<◌, ◌≤◌, List, [], ◌∷◌, ◌++◌, length, sym, refl, ap, ◌∙◌, arith}
use Rattle.std.proofs.Common.{vec_len}
use Rattle.std.specs.declared.alloc.Global.{Global}
use Rattle.std.specs.declared.vec.Vec.{Vec}
use Rattle.std.proofs.lemmas.List.{length-append}
use Rattle.digits.specs.Digits.{hex_text}

-- two digits for each byte
hex-length : (bytes : List ℕ) → length (hex_text bytes) ≡ 2 * length bytes
hex-length [] = refl
hex-length (b ∷ bytes) = let e = hex-length bytes in omega arith

-- no room for the digits is no room for the text that they end, of which `said` and a colon are written
pub answer-room : (said written : List ℕ) (cap full len : ℕ) → cap ≤ full
    → full < len + length said + 1 + 2 * length written → cap < len + length (said ++ 58 ∷ hex_text written)
answer-room said written cap full len kept short =
    let l : length (said ++ 58 ∷ hex_text written) ≡ length said + length (58 ∷ hex_text written) =
    length-append said _ in
    let h : length (hex_text written) ≡ 2 * length written = hex-length written in
    omega arith

-- a vector behind whose elements more were put
pub len-more : (v w : Vec ℕ Global) (more : List ℕ) → w.items ≡ v.items ++ more → vec_len w ≡ vec_len v + length more
len-more v w more e =
    w.ok.0 ∙ ap (λ l. length l) e ∙ length-append v.items more ∙ ap (λ n. n + length more) (sym v.ok.0)
