-- A request by the data that came.
use Rattle.std.specs.Prelude.{length}
use Rattle.packet.specs.Requests.{RequestParts}

-- with the Size that its data has
abbrev pub sized : RequestParts → RequestParts
sized q = record q { size = length q.«data» }
