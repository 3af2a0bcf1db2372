use Rattle.std.proofs.Common.{◌+◌, ◌-◌, ◌*◌, sym, arith}
use Rattle.std.proofs.lemmas.Slice.{put_mid-paste}
use Rattle.page_memory.proofs.chip.write_page.Goals as goal

pub returns : goal.returns
returns c =
    let a = c.args.page * 256 in
    put_mid-paste a (a + 256 - a) c.args.bytes.now c.copy_from_slice.new.self c.args.template.now 256
    c.copy_from_slice.ensures.after (omega arith) (sym c.requires.template_len)
