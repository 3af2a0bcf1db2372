-- Which packets are heard.
use Rattle.std.specs.Prelude.{ℕ, List, Result}
use Rattle.codes.specs.declared.network.NetworkMode.TheVariants.{Single, Network as InNetwork}
use Rattle.codes.specs.declared.refusal.Refusal.{Refusal}
use Rattle.packet.specs.Requests.{RequestParts, read_request}
use Rattle.hostline.specs.declared.hearing.Hearing.{Hearing}
use Rattle.hostline.specs.declared.hearing.Hearing.TheVariants.{Standard, Network}

-- a frame, as it is heard; a standard packet is for no terminal number, and is read alike for each
abbrev pub heard : Hearing → List ℕ → Result RequestParts Refusal
heard Standard frame = read_request Single 0 frame
heard (Network own) frame = read_request InNetwork own frame
