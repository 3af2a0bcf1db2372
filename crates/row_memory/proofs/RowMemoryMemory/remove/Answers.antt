use Rattle.std.proofs.Common.{vec_items, refl, ◌∙◌, arith}
use Rattle.memory.proofs.Cases.{remove-there, remove-past}
use Rattle.row_memory.specs.Rows.{rows_in}
use Rattle.row_memory.specs.RowsLemmas.{chip-moved, rows_length}
use Rattle.row_memory.proofs.RowMemoryMemory.remove.Goals as goal

pub invariant_of-self : goal.invariant_of-self
invariant_of-self c =
    let s = c.args.self.now in
    let chip = chip-moved (vec_items s.bytes) s.count c.args.place s.fits c.if-place-self.false
    s.bytes refl c.deref_mut.ensures.value c.close_row.auto.bytes c.close_row.ensures s.sound in
    record { fits = chip.fits; sound = chip.sound }

pub returns-then-place-self-clause-after : goal.returns-then-place-self-clause-after
returns-then-place-self-clause-after c =
    let s = c.args.self.now in
    let bs = vec_items s.bytes in
    let n = rows_length bs s.count in
    (remove-past (rows_in bs s.count) c.args.place (omega arith)).1

pub returns : goal.returns
returns c =
    let s = c.args.self.now in
    let bs = vec_items s.bytes in
    let n = rows_length bs s.count in
    let chip = chip-moved bs s.count c.args.place s.fits c.if-place-self.false
    s.bytes refl c.deref_mut.ensures.value c.close_row.auto.bytes c.close_row.ensures s.sound in
    let yes = remove-there (rows_in bs s.count) c.args.place (omega arith) in
    record { value = yes.0; after = chip.holds ∙ yes.1; room_same = chip.room }
