use Rattle.std.proofs.Common.{ap, ◌∙◌}
use Rattle.rows.specs.Rows.{struck_at}
use Rattle.rows.proofs.Places.{turned}
use Rattle.rows.proofs.strike.Goals as goal

pub returns-clause-after : goal.returns-clause-after
returns-clause-after g c =
    turned c.args.rows.now c.rotate_left.new.self c.in-Some.at c.rotate_left.ensures.after
    ∙ ap (struck_at c.args.rows.now) c.in-Some.ensures.value
