-- How a request ends: with what it answers, or with the code that refuses it.
use Rattle.std.specs.Prelude.{◌≡◌, Ok, Err, OnErr, Result}
use Rattle.codes.specs.declared.code.Code.{Code}
use Rattle.device.specs.View.{view, went}
use Rattle.device.specs.declared.answers.Answers.{Answers}
use Rattle.device.specs.declared.keeping.Device.{Device}
use Rattle.machine.specs.Answers.{Step, just}
use Rattle.machine.specs.State.{State}
use Rattle.matcher.specs.declared.matching.Matcher.{Ghosts as Matching}
use Rattle.memory.specs.declared.Memory.{Ghosts as Remembering}
use Rattle.packet.specs.Requests.{RequestParts, request_parts}
use Rattle.packet.specs.declared.request.Request.{Request}

-- a step from a value; or where there is none, one outcome with the code and nothing in Param and Size
abbrev pub or_fault : {X : Type 0} → State → RequestParts → (X → Step) → Result X Code → Step
or_fault s q f (Ok x) = f x
or_fault s q f (Err code) = just s q code

module _ {M S : Type 0} (f : Matching M) (g : Remembering S) where
  -- the request leads from one device to another, and ends so, as the rule says
  abbrev pub Obeys : (State → RequestParts → Step) → Device M S → Device M S → Request
      → Result Answers Code → Type 0
  Obeys rule old new q r =
      or_fault (view f g new) (request_parts q) (went (view f g new)) r ≡ rule (view f g old) (request_parts q)

  -- a request that is refused changes nothing
  abbrev pub KeptOnErr : Device M S → Device M S → Result Answers Code → Type 0
  KeptOnErr old new r = OnErr r (view f g new ≡ view f g old)
