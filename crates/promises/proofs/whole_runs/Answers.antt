use Rattle.promises.proofs.Alike.{locked-alike}
use Rattle.promises.proofs.Whole.{always-promised}
use Rattle.promises.proofs.whole_runs.Goals as goal

pub returns : goal.returns
returns c = record { promised = always-promised; alike = locked-alike }
