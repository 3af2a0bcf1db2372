-- A request that is not counted as the length of a frame, in a buffer as long as that, has other bytes than the frame.
use Rattle.std.proofs.Common.{◌≡◌, ◌∙◌, ap, sym, ℕ, List, length, true, false, cond, nat_eq, bytes_eq}
use Rattle.std.proofs.Common.{Some, None, arith, le-leb, eq-eqb}
use Rattle.std.specs.Option.{option_eq}
use Rattle.std.proofs.lemmas.Bool.{false≢true, false_from_ne_true}
use Rattle.std.proofs.lemmas.Slice.Eq.{bytes_eq-Decides}
use Rattle.packet.specs.Packets.{written_count}

counted : (bs out frame : List ℕ) → length out ≡ length frame → bs ≡ frame
    → option_eq nat_eq (written_count bs out) (Some (length frame)) ≡ true
counted bs out frame long same =
    let t = le-leb (length bs) (length out) (omega (arith, long, ap length same)) in
    ap (λ b. option_eq nat_eq (cond b (Some (length bs)) None) (Some (length frame))) t
    ∙ eq-eqb (length bs) (length frame) (ap length same)

pub differs : (bs out frame : List ℕ) → length out ≡ length frame
    → option_eq nat_eq (written_count bs out) (Some (length frame)) ≡ false → bytes_eq bs frame ≡ false
differs bs out frame long other =
    false_from_ne_true (bytes_eq bs frame)
    (λ t. false≢true (sym other ∙ counted bs out frame long ((bytes_eq-Decides bs frame).0 t)))
