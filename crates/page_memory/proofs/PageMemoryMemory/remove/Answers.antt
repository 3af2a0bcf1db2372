use Rattle.std.proofs.Common.{◌-◌, ap, ◌∙◌, arith}
use Rattle.memory.proofs.Cases.{remove-there}
use Rattle.page_memory.specs.Pages.{held_in, held_of, pages_in}
use Rattle.page_memory.specs.Contents.{bytes_of, held_by}
use Rattle.page_memory.specs.Listed.{held-length}
use Rattle.page_memory.proofs.Struck.{strikes, filed-struck, inside-struck, apart-struck, one_less}
use Rattle.page_memory.proofs.PageMemoryMemory.remove.Goals as goal

pub invariant_of-self : goal.invariant_of-self
invariant_of-self c =
    let m = c.args.self.now in
    let t = c.if-place-self.false in
    rw (strikes m c.args.place t c.strike.new.rows (m.count - 0) (omega arith) c.strike.ensures.after)
    (record { filed = filed-struck m c.args.place t; inside = inside-struck m c.args.place t; apart = apart-struck m c.args.place t })

pub returns-clause-after : goal.returns-clause-after
returns-clause-after c =
    let m = c.args.self.now in
    let n = held-length m in
    let t = c.if-place-self.false in
    let e = strikes m c.args.place t c.strike.new.rows (m.count - 0) (omega arith) c.strike.ensures.after in
    ap (λ d. held_in (bytes_of m) d (m.count - 1)) e ∙ one_less m c.args.place t (held_of (bytes_of m))
    ∙ (remove-there (held_by m) c.args.place (omega arith)).1

pub returns-clause-pages : goal.returns-clause-pages
returns-clause-pages c =
    let m = c.args.self.now in
    let t = c.if-place-self.false in
    let e = strikes m c.args.place t c.strike.new.rows (m.count - 0) (omega arith) c.strike.ensures.after in
    ap (λ d. pages_in d (m.count - 1)) e ∙ one_less m c.args.place t (λ r. r.page)
