-- A packet that passed its tests: what is read of it, and that its fields write back to its bytes.
use Rattle.std.proofs.Common.{◌≡◌, ℕ, zero, suc, ◌+◌, ◌-◌, ◌≤◌, Bool, true, false, eqb, List, [], ◌∷◌, ◌++◌, length}
use Rattle.std.proofs.Common.{get_or, take, drop, Some, None, Ok, Err, Option, Result, sym, refl, ap, ◌∙◌, add-zero}
use Rattle.std.proofs.Common.{zero-add, arith}
use Rattle.std.proofs.lemmas.Bool.{le-ltb, eqb-true}
use Rattle.std.proofs.lemmas.List.{take_rest, take-append-drop, drop_more, append_assoc, append_cancel_right}
use Rattle.codes.specs.declared.refusal.Refusal.{Refusal}
use Rattle.packet.specs.declared.form.Form.{Form}
use Rattle.packet.specs.declared.form.Head.{Head}
use Rattle.packet.specs.Numbers.{checksum_of}
use Rattle.packet.specs.Heads.{flaw, unless, tested, fields_at, start_bytes, field_bytes, summed_bytes, head_bytes}

-- what the tests ask of the start code, of the end code at the place j and of the checksum at the place n, where s is the sum
abbrev tests : ℕ → ℕ → ℕ → ℕ → List ℕ → Option Refusal
tests start n j s xs = flaw (eqb (get_or xs 0 0) start) (eqb (get_or xs j 0) 0x0A) (eqb (get_or xs n 0) s)

flawless : (a b c : Bool) → Ok tt ≡ unless (flaw a b c) (tt {0}) → (a ≡ true) × (b ≡ true) × (c ≡ true)
flawless true true true e = (refl, refl, refl)
flawless true true false e = cc
flawless true false c e = cc
flawless false b c e = cc

tested-as : {X : Type 0} (start n s : ℕ) (xs : List ℕ) (x : X) → n ≤ length xs → s ≡ checksum_of (take (n - 2) xs)
    → tested start n xs x ≡ unless (tests start (n - 2) (n - 1) s xs) x
tested-as start n s xs x len sum = rw (le-ltb _ _ len, sum)

unless-err : {X : Type 0} (f : Option Refusal) (x : X) (e : Refusal) → Err e ≡ unless f (tt {0}) → Err e ≡ unless f x
unless-err None x e h = cc
unless-err (Some r) x e h = cc

pub failed : {X : Type 0} (start n s : ℕ) (xs : List ℕ) (x : X) (e : Refusal) → n ≤ length xs → s ≡ checksum_of (take (n - 2) xs)
    → Err e ≡ unless (tests start (n - 2) (n - 1) s xs) (tt {0}) → Err e ≡ tested start n xs x
failed start n s xs x e len sum was = unless-err _ x e was ∙ sym (tested-as start n s xs x len sum)

pub passed : (start n s : ℕ) (xs : List ℕ) (h h' : Head) → n ≤ length xs → s ≡ checksum_of (take (n - 2) xs)
    → Ok tt ≡ unless (tests start (n - 2) (n - 1) s xs) (tt {0}) → h ≡ h'
    → ◌≡◌ {A = Result (Head × List ℕ) Refusal} (Ok (h, take (length xs - n) (drop n xs))) (tested start n xs (h', drop n xs))
passed start n s xs h h' len sum was same =
    let r = flawless _ _ _ was in
    let x : Head × List ℕ = (h', drop n xs) in
    rw (take_rest, same) (sym (tested-as start n s xs x len sum ∙ rw (r.0, r.1, r.2)))

-- the n elements from the place i on
abbrev pub firsts : ℕ → ℕ → List ℕ → List ℕ
firsts i zero xs = []
firsts i (suc n) xs = get_or xs i 0 ∷ firsts (i + 1) n xs

firsts-drop : (i n : ℕ) (xs : List ℕ) → i + n ≤ length xs → firsts i n xs ++ drop (i + n) xs ≡ drop i xs
firsts-drop i zero xs h = ap (λ k. drop k xs) (add-zero i)
firsts-drop i (suc n) xs h =
    ap (λ k. get_or xs i 0 ∷ (firsts (i + 1) n xs ++ drop k xs)) (omega arith)
    ∙ ap (λ l. get_or xs i 0 ∷ l) (firsts-drop (i + 1) n xs (omega arith))
    ∙ sym (drop_more xs i 0 (omega arith))

firsts-take : (n : ℕ) (xs : List ℕ) → n ≤ length xs → firsts 0 n xs ≡ take n xs
firsts-take n xs h =
    append_cancel_right (firsts 0 n xs) (take n xs) (drop n xs)
    (ap (λ k. firsts 0 n xs ++ drop k xs) (sym (zero-add n)) ∙ firsts-drop 0 n xs (omega arith) ∙ sym (take-append-drop n xs))

-- n bytes, their checksum and the end code are what the packet has, and what stands behind it follows
pub packed : (n : ℕ) (xs bs : List ℕ) → n + 2 ≤ length xs → bs ≡ firsts 0 n xs → get_or xs n 0 ≡ checksum_of (take n xs)
    → get_or xs (n + 1) 0 ≡ 0x0A → (bs ++ checksum_of bs ∷ 0x0A ∷ []) ++ drop (n + 2) xs ≡ xs
packed n xs bs len same sum end =
    let front : bs ≡ take n xs = same ∙ firsts-take n xs (omega arith) in
    let more : drop n xs ≡ get_or xs n 0 ∷ get_or xs (n + 1) 0 ∷ drop (n + 2) xs =
    drop_more xs n 0 (omega arith)
    ∙ ap (λ l. get_or xs n 0 ∷ l)
    (drop_more xs (n + 1) 0 (omega arith) ∙ ap (λ k. get_or xs (n + 1) 0 ∷ drop k xs) (omega arith)) in
    ap (λ l. (l ++ checksum_of l ∷ 0x0A ∷ []) ++ drop (n + 2) xs) front
    ∙ append_assoc (take n xs) (checksum_of (take n xs) ∷ 0x0A ∷ []) (drop (n + 2) xs)
    ∙ ap (λ b. take n xs ++ b ∷ 0x0A ∷ drop (n + 2) xs) (sym sum)
    ∙ ap (λ b. take n xs ++ get_or xs n 0 ∷ b ∷ drop (n + 2) xs) (sym end)
    ∙ ap (λ l. take n xs ++ l) (sym more)
    ∙ take-append-drop n xs

-- the start of a packet and its fields, written again
pub back : (start n s : ℕ) (xs ss fs : List ℕ) (form : Form) (h : Head) → n + 2 ≤ length xs → s ≡ checksum_of (take n xs)
    → Ok tt ≡ unless (tests start n (n + 1) s xs) (tt {0}) → h ≡ fields_at form 0 fs → field_bytes h.command h.param h.size h.flag ≡ fs
    → (get_or xs 0 0 ≡ start → start_bytes form ≡ ss) → ss ++ fs ≡ firsts 0 n xs
    → head_bytes h ++ take (length xs - (n + 2)) (drop (n + 2) xs) ≡ xs
back start n s xs ss fs form h len sum was same fields starts all =
    let r = flawless _ _ _ was in
    let bytes : summed_bytes h ≡ firsts 0 n xs =
    ap (λ f. start_bytes f ++ field_bytes h.command h.param h.size h.flag) (ap (λ k. k.form) same) ∙ ap (λ l. start_bytes form ++ l) fields
    ∙ ap (λ l. l ++ fs) (starts (eqb-true _ _ r.0)) ∙ all in
    ap (λ l. head_bytes h ++ l) (take_rest xs (n + 2)) ∙ packed n xs (summed_bytes h) len bytes (eqb-true _ _ r.2 ∙ sum) (eqb-true _ _ r.1)
