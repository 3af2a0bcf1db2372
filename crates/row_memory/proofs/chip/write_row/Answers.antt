use Rattle.std.proofs.Common.{◌≡◌, ℕ, ◌+◌, ◌-◌, ◌*◌, ◌/◌, ◌%◌, ◌≤◌, List, [], ◌∷◌, ◌++◌, length, sym, refl, ap, ◌∙◌, arith}
use borrow.Rule.Slice.PartMut.{put_mid}
use lib.Seq.{paste}
use Rattle.std.proofs.lemmas.List.Edits.{paste-paste}
use Rattle.std.proofs.lemmas.Slice.{put_mid-paste}
use Rattle.row_memory.proofs.chip.write_row.Goals as goal

-- two writes side by side are one: of the ID and of the template, which copies wrote as xs and ys
side_by_side : (bs : List ℕ) (a : ℕ) (xs ys id t : List ℕ) → a + 386 ≤ length bs → xs ≡ id → length id ≡ 2 → ys ≡ t → length t ≡ 384
    → put_mid (a + 2) (a + 386 - (a + 2)) (put_mid a (a + 2 - a) bs xs) ys ≡ paste bs a (id ++ t) 386
side_by_side bs a xs ys id t fits e l f m =
    put_mid-paste (a + 2) (a + 386 - (a + 2)) (put_mid a (a + 2 - a) bs xs) ys t 384 f (omega arith) (sym m)
    ∙ ap (λ z. paste z (a + 2) t 384) (put_mid-paste a (a + 2 - a) bs xs id 2 e (omega arith) (sym l))
    ∙ paste-paste bs a id t 2 384 (sym l) (sym m) (omega arith)

pub returns : goal.returns
returns c =
    let id = c.args.id in
    side_by_side c.args.bytes.now (c.args.place * 386) _ _ ((id % 256) ∷ (id / 256 % 256) ∷ []) c.args.template.now
    c.requires.place_in_bounds
    (c.copy_from_slice.ensures.after ∙ c.to_le_bytes.ensures) refl c.copy_from_slice-2.ensures.after c.requires.template_len
