-- What is written, and the bytes behind it, which stay.
use Rattle.std.proofs.Common.{◌≡◌, ℕ, ◌+◌, ◌-◌, ◌<◌, ◌≤◌, Bool, true, false, cond, List, [], ◌∷◌, ◌++◌, length, get_or}
use Rattle.std.proofs.Common.{take, drop, set, IfSome, nat_le, Some, None, Option, sym, refl, ap, ◌∙◌, subst, arith}
use borrow.Rule.Slice.PartMut.{put_mid}
use native.Mathlib.Nat.{sub-zero}
use Rattle.std.proofs.lemmas.List.{take_at, drop_at, take_rest, drop-drop, drop_all, append-nil, append_assoc}
use Rattle.std.proofs.lemmas.List.{length-append, length-drop, length_push, drop_more, set_at}
use Rattle.codes.specs.declared.command.Command.{Command}
use Rattle.codes.specs.declared.numbered.Coded.{Coded}
use Rattle.packet.specs.declared.form.Form.{Form}
use Rattle.packet.specs.declared.form.Form.TheVariants.{Standard, Network}
use Rattle.packet.specs.declared.form.Head.{Head}
use Rattle.packet.specs.Numbers.{checksum_of}
use Rattle.packet.specs.Heads.{closed, field_bytes, head_bytes, head_length, start_bytes}
use Rattle.packet.specs.Packets.{packet_bytes, written, written_count}

-- how long a packet is
length-in : (f : Form) (command : Coded Command) (param size flag : ℕ)
    → length (head_bytes (record { form = f; command = command; param = param; size = size; flag = flag })) ≡ head_length f
length-in Standard command param size flag = refl
length-in (Network n) command param size flag = refl

pub length-head : (h : Head) → length (head_bytes h) ≡ head_length h.form
length-head h = length-in h.form h.command h.param h.size h.flag

pub length-bare : (h : Head) (carries : Bool) (bs : List ℕ) → carries ≡ false → length (packet_bytes h carries bs) ≡ head_length h.form
length-bare h carries bs e = ap (λ b. length (packet_bytes h b bs)) e ∙ ap length (append-nil (head_bytes h)) ∙ length-head h

pub length-packet : (h : Head) (carries : Bool) (bs : List ℕ) → carries ≡ true
    → length (packet_bytes h carries bs) ≡ head_length h.form + (length bs + 1)
length-packet h carries bs e =
    ap (λ b. length (packet_bytes h b bs)) e ∙ length-append (head_bytes h) (bs ++ 0x0A ∷ [])
    ∙ ap (λ n. n + length (bs ++ 0x0A ∷ [])) (length-head h) ∙ ap (λ n. head_length h.form + n) (length_push bs 0x0A)

-- data, and a byte written behind it
pub ended : {X : Type 0} (out bs w : List X) (n k : ℕ) (y : X) → length bs ≡ n → k ≡ n → w ≡ bs → n < length out
    → set (w ++ drop k out) n y ≡ (bs ++ y ∷ []) ++ drop (n + 1) out
ended out bs w n k y len kn same h =
    rw (same, kn)
    (ap (λ l. set (bs ++ l) n y) (drop_more out n y h)
    ∙ set_at bs (get_or out n y) (drop (n + 1) out) y n len
    ∙ sym (append_assoc bs (y ∷ []) (drop (n + 1) out)))

-- a part of a buffer that is lent on from the end of what was written: p and the old bytes stand in it,
-- and the borrower writes q at its front
pub lent-on : {X : Type 0} (n k j : ℕ) (out m p q w : List X) → n ≡ k → length p ≡ k → m ≡ p ++ drop k out
    → w ≡ q ++ drop j (take (length m - n) (drop n m))
    → put_mid n (length m - n) m w ≡ p ++ q ++ drop (k + j) out
lent-on n k j out m p q w nk pk mp wq =
    let front : take n m ≡ p = ap (take n) mp ∙ take_at p (drop k out) n (pk ∙ sym nk) in
    let back : drop n m ≡ drop k out = ap (drop n) mp ∙ drop_at p (drop k out) n (pk ∙ sym nk) in
    let part : w ≡ q ++ drop (k + j) out = wq ∙ ap (λ l. q ++ drop j l) (take_rest m n ∙ back) ∙ ap (λ l. q ++ l) (drop-drop j k out) in
    let past : drop (length m - n) (drop n m) ≡ [] = drop_all (length m - n) (drop n m) (simp length-drop (omega arith)) in
    rw (front, past, append-nil, part, append_assoc)

-- a buffer with xs at its front and ys behind them
abbrev parts : List ℕ → List ℕ → List ℕ → List ℕ → List ℕ → List ℕ
parts xs ys out p q = put_mid (length xs) (length xs + length ys - length xs) (p ++ drop (length xs - 0) out) q

parts-are : (xs ys out p q : List ℕ) → p ≡ xs → q ≡ ys → parts xs ys out p q ≡ (xs ++ ys) ++ drop (length xs + length ys) out
parts-are xs ys out p q px qy =
    let k = length xs in
    let front : take k (p ++ drop k out) ≡ xs = ap (λ l. take k (l ++ drop k out)) px ∙ take_at xs (drop k out) k refl in
    let back : drop k (p ++ drop k out) ≡ drop k out = ap (λ l. drop k (l ++ drop k out)) px ∙ drop_at xs (drop k out) k refl in
    let size : k + length ys - k ≡ length ys = omega arith in
    rw (sub-zero, front, back, size, drop-drop, qy, append_assoc)

pub summed-parts : (xs ys out p q : List ℕ) → p ≡ xs → q ≡ ys → take (length xs + length ys - 0) (parts xs ys out p q) ≡ xs ++ ys
summed-parts xs ys out p q px qy =
    rw (sub-zero (length xs + length ys))
    (ap (take (length xs + length ys)) (parts-are xs ys out p q px qy)
    ∙ take_at (xs ++ ys) (drop (length xs + length ys) out) (length xs + length ys) (length-append xs ys))

-- two parts written one behind the other, then the checksum of both and the end code
pub closing : (xs ys out p q : List ℕ) (s : ℕ) → p ≡ xs → q ≡ ys → length xs + length ys + 2 ≤ length out
    → s ≡ checksum_of (xs ++ ys)
    → set (set (parts xs ys out p q) (length xs + length ys) s) (length xs + length ys + 1) 0x0A ≡ closed (xs ++ ys)
    ++ drop (length xs + length ys + 2) out
closing xs ys out p q s px qy h sum =
    let n = length xs + length ys in
    let len : length (xs ++ ys) ≡ n = length-append xs ys in
    ap (λ l. set (set l n s) (n + 1) 0x0A) (parts-are xs ys out p q px qy)
    ∙ ap (λ l. set l (n + 1) 0x0A) (ended out (xs ++ ys) (xs ++ ys) n n s len refl refl (omega arith))
    ∙ ended out ((xs ++ ys) ++ s ∷ []) ((xs ++ ys) ++ s ∷ []) (n + 1) (n + 1) 0x0A
    (length_push (xs ++ ys) s ∙ ap (λ k. k + 1) len) refl refl (omega arith)
    ∙ ap (λ l. l ++ drop (n + 1 + 1) out) (append_assoc (xs ++ ys) (s ∷ []) (0x0A ∷ []))
    ∙ ap (λ b. ((xs ++ ys) ++ b ∷ 0x0A ∷ []) ++ drop (n + 1 + 1) out) sum
    ∙ ap (λ k. closed (xs ++ ys) ++ drop k out) (omega arith)

-- a packet without data, by its start and its fields
pub headed : (h : Head) (f : Form) (ss fs out new : List ℕ) → h.form ≡ f → ss ≡ start_bytes f
    → fs ≡ field_bytes h.command h.param h.size h.flag
    → new ≡ closed (ss ++ fs) ++ drop (length ss + length fs + 2) out → new ≡ head_bytes h ++ drop (head_length h.form) out
headed h f ss fs out new is sf ff e =
    e ∙ ap (λ l. closed (l ++ fs) ++ drop (length l + length fs + 2) out) (sf ∙ ap start_bytes (sym is))
    ∙ ap (λ l. closed (start_bytes h.form ++ l) ++ drop (length (start_bytes h.form) + length l + 2) out) ff
    ∙ ap (λ k. head_bytes h ++ drop k out) (length-of h.form)
  where
    length-of : (g : Form) → length (start_bytes g) + 10 + 2 ≡ head_length g
    length-of Standard = refl
    length-of (Network n) = refl

-- what holds of some bytes holds of those that were written, if any were
pub written-as : (P : List ℕ → Type 0) (bs out new : List ℕ) (r : Option ℕ) → r ≡ written_count bs out → new ≡ written bs out → P bs
    → IfSome r (λ n. P (take n new))
written-as P bs out new r count bytes holds =
    subst (λ (m : Option ℕ). IfSome m (λ n. P (take n new))) (sym count)
    (subst (λ (l : List ℕ). IfSome (written_count bs out) (λ n. P (take n l))) (sym bytes) (by-room (nat_le (length bs) (length out))))
  where
    by-room : (b : Bool) → IfSome (cond b (Some (length bs)) None) (λ n. P (take n (cond b (bs ++ drop (length bs) out) out)))
    by-room true = subst P (sym (take_at bs (drop (length bs) out) (length bs) refl)) holds
    by-room false = tt
