use Rattle.promises.proofs.Alike.{locked-idle}
use Rattle.promises.proofs.locked_idle.Goals as goal

pub returns : goal.returns
returns c = locked-idle
