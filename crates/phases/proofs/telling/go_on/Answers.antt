use Rattle.phases.proofs.telling.go_on.Goals as goal

pub returns : goal.returns
returns g c = λ p next command awaited.
    rw (c.wait_for.ensures, awaited, c.scanned-answers.ensures _ p command)
