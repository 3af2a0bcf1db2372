use Rattle.std.proofs.Common.{◌∙◌}
use Rattle.phases.proofs.grants.ask_administrator.Goals as goal

pub returns-in-Some : goal.returns-in-Some
returns-in-Some g c = λ p next command awaited.
    c.go_on.ensures p next command awaited
    ∙ rw (← c.in-Some.ensures, c.tell-told.ensures, c.from.ensures, ← command)
