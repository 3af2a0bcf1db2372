-- A reply that is written around its data.
use Rattle.std.specs.Prelude.{ℕ, cond, List, take, drop, Some, None, Option, ◌==◌}
use Rattle.packet.specs.declared.form.Form.{Form}
use Rattle.packet.specs.declared.form.Form.TheVariants.{Standard, Network}
use Rattle.packet.specs.declared.response.Outcome.{Outcome}
use Rattle.packet.specs.Heads.{head_length}
use Rattle.packet.specs.Responses.{carries}

-- where the data of a reply to a request of a form stands in the reply: right behind the packet; a broadcast has none
abbrev pub place_in : Form → Option ℕ
place_in Standard = Some (head_length Standard)
place_in (Network n) = cond (n == 0) None (Some (head_length (Network n)))

-- an outcome without data has no place for any
abbrev pub data_place : Form → Outcome → Option ℕ
data_place to o = cond (carries o) (place_in to) None

-- the data that stands in a buffer behind the place of a packet: fewer bytes where the buffer ends before
abbrev pub standing : Form → ℕ → List ℕ → List ℕ
standing form n out = take n (drop (head_length form) out)
