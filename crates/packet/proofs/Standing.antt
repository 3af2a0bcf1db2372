-- Data that stands in the buffer before the packet is written around it.
use Rattle.std.proofs.Common.{◌≡◌, ℕ, ◌+◌, ◌-◌, ◌<◌, true, List, [], ◌∷◌, ◌++◌, length, drop, set, sym, refl, ap, ◌∙◌, arith}
use Rattle.std.proofs.lemmas.Bool.{le-leb}
use Rattle.std.proofs.lemmas.List.{take-append-drop, drop-drop, append_assoc, length-append, length-drop, length-take-le}
use Rattle.packet.specs.declared.form.Head.{Head}
use Rattle.packet.specs.Heads.{head_bytes, head_length}
use Rattle.packet.specs.Packets.{packet_bytes, written}
use Rattle.packet.specs.Around.{standing}
use Rattle.packet.proofs.Writes.{ended, length-head, length-packet}

-- the packet at the front, and at i, behind its data, the end code
pub room-around : (h : Head) (out m : List ℕ) (n i : ℕ) → i ≡ head_length h.form + n → i < length out
    → m ≡ head_bytes h ++ drop (head_length h.form) out → set m i 0x0A ≡ written (packet_bytes h true (standing h.form n out)) out
room-around h out m n i at lt mh =
    let k = head_length h.form in
    let bs = standing h.form n out in
    let long : length (drop k out) ≡ length out - k = length-drop k out in
    let len : length bs ≡ n = length-take-le n (drop k out) (omega arith) in
    let front : length (head_bytes h ++ bs) ≡ i = length-append (head_bytes h) bs ∙ ap (λ j. j + length bs) (length-head h) ∙ omega arith in
    let parts : m ≡ (head_bytes h ++ bs) ++ drop i out =
    mh ∙ ap (λ l. head_bytes h ++ l)
    (sym (take-append-drop n (drop k out)) ∙ ap (λ l. bs ++ l) (drop-drop n k out ∙ ap (λ j. drop j out) (sym at)))
    ∙ sym (append_assoc (head_bytes h) bs (drop i out)) in
    let all : i + 1 ≡ length (packet_bytes h true bs) = sym (length-packet h true bs refl ∙ omega arith) in
    let fits = le-leb (length (packet_bytes h true bs)) (length out) (omega arith) in
    rw fits
    (ap (λ l. set l i 0x0A) parts
    ∙ ended out (head_bytes h ++ bs) (head_bytes h ++ bs) i i 0x0A front refl refl lt
    ∙ ap (λ l. l ++ drop (i + 1) out) (append_assoc (head_bytes h) bs (0x0A ∷ []))
    ∙ ap (λ j. packet_bytes h true bs ++ drop j out) all)
