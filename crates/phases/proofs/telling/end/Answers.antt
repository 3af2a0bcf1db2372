use Rattle.phases.proofs.telling.end.Goals as goal

pub returns : goal.returns
returns g c = λ p command. rw (c.rest.ensures, c.scanned-answers.ensures _ p command, c.tell-told.ensures, ← command)
