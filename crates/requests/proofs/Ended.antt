-- What a `?` hands on.
use Rattle.std.proofs.Common.{◌≡◌, Ok, Err, Result}
use Rattle.codes.specs.declared.code.Code.{Code}
use Rattle.machine.specs.Answers.{Step, just}
use Rattle.machine.specs.State.{State}
use Rattle.packet.specs.Requests.{RequestParts}
use Rattle.requests.specs.Ending.{or_fault}
use Rattle.std.specs.Result.{IsErrAnd}

module _ {X : Type 0} (s : State) (q : RequestParts) (f : X → Step) (step : Step) (code : Code) (k : just s q code ≡ step) where
  pub refused : (r : Result X Code) → IsErrAnd r (λ e. e ≡ code) → or_fault s q f r ≡ step
  refused (Ok x) e = absurd e
  refused (Err code') e = rw e k
