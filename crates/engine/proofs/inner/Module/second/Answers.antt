use Rattle.engine.proofs.Serving.{promised}
use Rattle.engine.proofs.inner.Module.second.Goals as goal

pub returns : goal.returns
returns g c = record { served = c.serve.ensures; promises = promised _ _ _ _ _ _ c.serve.ensures }
