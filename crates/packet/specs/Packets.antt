use Rattle.std.specs.Prelude.{ℕ, Bool, true, false, [], cond, List, ◌++◌, length, drop, Some, None, Option, nat_le}
use Rattle.std.specs.Borrow.{Bor}
use Rattle.packet.specs.declared.form.Head.{Head}
use Rattle.packet.specs.declared.form.Packet.{Packet}
use Rattle.packet.specs.Data.{data_bytes}
use Rattle.packet.specs.Heads.{head_bytes}

-- a packet with the data that it carries
abbrev pub packet_bytes : Head → Bool → List ℕ → List ℕ
packet_bytes h carries bs = head_bytes h ++ data_bytes carries bs

-- a packet and the data that it carries, if any
abbrev pub bytes_with : Head → Option (Bor (List ℕ)) → List ℕ
bytes_with h None = packet_bytes h false []
bytes_with h (Some bs) = packet_bytes h true bs.now

abbrev pub bytes_of : Packet → List ℕ
bytes_of p = bytes_with p.head p.«data»

-- a buffer with some bytes written at its front, where they have room; the bytes behind them stay
abbrev pub written : List ℕ → List ℕ → List ℕ
written bs out = cond (nat_le (length bs) (length out)) (bs ++ drop (length bs) out) out

-- the count of bytes written
abbrev pub written_count : List ℕ → List ℕ → Option ℕ
written_count bs out = cond (nat_le (length bs) (length out)) (Some (length bs)) None
