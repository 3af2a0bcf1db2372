use Rattle.std.proofs.Common.{◌≡◌, ℕ, ◌+◌, ◌-◌, ◌*◌, List, ◌++◌, take, drop, sym, ap, ◌∙◌, arith}
use Rattle.std.proofs.lemmas.List.Edits.{length-between}
use Rattle.std.proofs.lemmas.List.{drop-drop, drop-take, length-take-le}
use Rattle.row_memory.specs.Rows.{row_at, held_in}
use Rattle.row_memory.proofs.chip.read_template.Goals as goal

-- a row's template, where it stands in the chip
template : (bs : List ℕ) (k : ℕ) → take (k * 386 + 386 - (k * 386 + 2)) (drop (k * 386 + 2) bs) ≡ (held_in (row_at bs k)).template
template bs k =
    let e : k * 386 + 386 - (k * 386 + 2) ≡ 384 = omega arith in
    rw e (ap (take 384) (sym (drop-drop 2 (k * 386) bs)) ∙ sym (drop-take 2 384 (drop (k * 386) bs)))

pub copy_from_slice-requires : goal.copy_from_slice-requires
copy_from_slice-requires c =
    let start = c.args.place * 386 in
    let front = length-take-le 384 c.args.into.now c.requires.in_bounds in
    let rest = length-between c.args.bytes.now (start + 2) (start + 386) c.requires.place_in_bounds in
    omega arith

pub returns : goal.returns
returns c = ap (λ t. t ++ drop 384 c.args.into.now) (c.copy_from_slice.ensures.after ∙ template c.args.bytes.now c.args.place)
