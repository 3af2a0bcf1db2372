use Rattle.promises.proofs.Refused.{answers-clear, refusals-leave}
use Rattle.promises.proofs.refusals_leave.Goals as goal

pub returns : goal.returns
returns c = record { left = refusals-leave; clear = answers-clear }
