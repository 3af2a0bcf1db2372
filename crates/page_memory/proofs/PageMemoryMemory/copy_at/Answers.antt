use Rattle.std.proofs.Common.{◌++◌, drop, sym, ap, ◌∙◌, arith}
use Rattle.memory.specs.Held.{none}
use Rattle.memory.proofs.Cases.{copy-there}
use Rattle.page_memory.specs.Pages.{held_of, page_bytes}
use Rattle.page_memory.specs.Contents.{bytes_of, held_by}
use Rattle.page_memory.specs.Listed.{held-length, listed_at}
use Rattle.page_memory.proofs.PageMemoryMemory.copy_at.Goals as goal

pub returns-clause-after : goal.returns-clause-after
returns-clause-after c =
    let m = c.args.self.now in
    let bytes = bytes_of m in
    let n = held-length m in
    let rest = drop 256 c.args.into.now in
    c.read_page.ensures
    ∙ ap (λ b. page_bytes b c.from.result ++ rest) c.deref.ensures.value
    ∙ ap (λ page. page_bytes bytes page ++ rest) c.from.ensures
    ∙ ap (λ h. h.template ++ rest) (sym (listed_at m (held_of bytes) c.args.place none c.if-place-self.false))
    ∙ (copy-there (held_by m) c.args.place 256 c.args.into.now (omega arith) c.if-into-lt-T.false).1
