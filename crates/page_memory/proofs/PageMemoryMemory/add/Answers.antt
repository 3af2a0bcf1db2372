use Rattle.std.proofs.Common.{◌<◌, ◌∙◌, arith, rules}
use Rattle.memory.proofs.Cases.{add-there}
use Rattle.page_memory.specs.Contents.{held_by, room_of}
use Rattle.page_memory.specs.Listed.{held-length}
use Rattle.page_memory.proofs.Added.{added}
use Rattle.page_memory.proofs.PageMemoryMemory.add.Goals as goal

pub invariant_of-self : goal.invariant_of-self
invariant_of-self c =
    let m = c.args.self.now in
    let room : m.count < room_of m = omega (arith, c.if-self-capacity.false, c.capacity.ensures) in
    let small : c.args.id < 65536 = search rules in
    let a =
    (added m c.args.id c.args.template.now room c.if-template-ne-T.false c.write_page.new.bytes c.deref_mut.result.now c.from.result
    c.write_page.ensures c.deref_mut.ensures.value c.from.ensures (omega (arith, c.if-id-eq0.false)) small).0 in
    record { filed = a.0; inside = a.1; apart = a.2 }

pub returns : goal.returns
returns c =
    let m = c.args.self.now in
    let n = held-length m in
    let room : m.count < room_of m = omega (arith, c.if-self-capacity.false, c.capacity.ensures) in
    let small : c.args.id < 65536 = search rules in
    let a =
    added m c.args.id c.args.template.now room c.if-template-ne-T.false c.write_page.new.bytes c.deref_mut.result.now c.from.result
    c.write_page.ensures c.deref_mut.ensures.value c.from.ensures (omega (arith, c.if-id-eq0.false)) small in
    let y = add-there 256 (room_of m) (held_by m) c.args.id c.args.template.now c.if-id-eq0.false c.if-template-ne-T.false (omega arith) in
    record { value = y.0; after = a.1 ∙ y.1; room_same = a.2; pages = a.3 }
