use Rattle.std.proofs.Common.{◌++◌, drop, vec_items, sym, ap, ◌∙◌, arith}
use Rattle.std.proofs.lemmas.Bool.Decides.{nat_tests}
use Rattle.memory.specs.Held.{none}
use Rattle.memory.proofs.Cases.{copy-there}
use Rattle.row_memory.specs.Rows.{held_in, row_at, rows_in}
use Rattle.row_memory.specs.RowsLemmas.{rows_length, row-there}
use Rattle.row_memory.proofs.RowMemoryMemory.copy_at.Goals as goal

pub returns-then-place-self-clause-after : goal.returns-then-place-self-clause-after
returns-then-place-self-clause-after c =
    let s = c.args.self.now in
    let n = rows_length (vec_items s.bytes) s.count in
    grind (arith, nat_tests)

pub returns : goal.returns
returns c =
    let s = c.args.self.now in
    let p = c.args.place in
    let bs = vec_items s.bytes in
    let into = c.args.into.now in
    let n = rows_length bs s.count in
    let yes = copy-there (rows_in bs s.count) p 384 into (omega arith) c.if-into-lt-T.false in
    record {
      value = yes.0;
      after = c.read_template.ensures
          ∙ ap (λ b. (held_in (row_at b p)).template ++ drop 384 into) c.deref.ensures.value
          ∙ ap (λ e. e.template ++ drop 384 into) (sym (row-there bs s.count p none (omega arith)))
          ∙ yes.1;
    }
