use Rattle.std.proofs.Common.{vec_items, refl, ◌∙◌, arith, rules}
use Rattle.memory.proofs.Cases.{add-there}
use Rattle.row_memory.specs.Rows.{capacity_of, rows_in}
use Rattle.row_memory.specs.RowsLemmas.{chip-added, rows_length}
use Rattle.row_memory.proofs.RowMemoryMemory.add.Goals as goal

pub invariant_of-self : goal.invariant_of-self
invariant_of-self c =
    let s = c.args.self.now in
    let chip = chip-added (vec_items s.bytes) s.count c.args.id c.args.template.now (omega arith) c.if-template-ne-T.false (search rules)
    s.bytes refl c.deref_mut.ensures.value c.write_row.auto.bytes c.write_row.ensures (omega arith) s.sound in
    record { fits = chip.fits; sound = chip.sound }

pub returns : goal.returns
returns c =
    let s = c.args.self.now in
    let bs = vec_items s.bytes in
    let n = rows_length bs s.count in
    let chip = chip-added bs s.count c.args.id c.args.template.now (omega arith) c.if-template-ne-T.false (search rules)
    s.bytes refl c.deref_mut.ensures.value c.write_row.auto.bytes c.write_row.ensures (omega arith) s.sound in
    let yes = add-there 384 (capacity_of bs) (rows_in bs s.count) c.args.id c.args.template.now
    c.if-id-eq0.false c.if-template-ne-T.false (omega arith) in
    record { value = yes.0; after = chip.holds ∙ yes.1; room_same = chip.room }
