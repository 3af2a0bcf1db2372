use Rattle.std.proofs.Common.{unwrap_or, ap, ◌∙◌}
use Rattle.engine.proofs.Copies.{copied}
use Rattle.engine.proofs.writing.write_template.Goals as goal

pub returns : goal.returns
returns g c =
    let k = copied g.S.Memory.T (g.S.Memory.held c.args.memory.now) c.args.place c.args.out.now c.copy_at.new.into c.unwrap_or.result
    (g.met.S.Memory.sound c.args.memory.now) c.requires
    (c.unwrap_or.ensures ∙ ap (λ o. unwrap_or o 0) c.copy_at.ensures.value) c.copy_at.ensures.after in
    record { count = k.0; bytes = k.1 }
