use Rattle.std.specs.Prelude.{ℕ, Bool, true, cond, not, ◌||◌, List, length, Ok, Err, Result, ◌==◌}
use Rattle.codes.specs.declared.command.Command.{Command}
use Rattle.codes.specs.declared.network.NetworkMode.{NetworkMode}
use Rattle.codes.specs.declared.numbered.Coded.{Coded}
use Rattle.codes.specs.declared.refusal.Refusal.{Refusal}
use Rattle.codes.specs.declared.refusal.Refusal.TheVariants.{Terminal, DataLength}
use Rattle.packet.specs.declared.form.Form.{Form}
use Rattle.packet.specs.declared.form.Form.TheVariants.{Standard, Network}
use Rattle.packet.specs.declared.form.Head.{Head}
use Rattle.packet.specs.declared.request.Request.{Request}
use Rattle.packet.specs.Data.{asks_with_data, split_data}
use Rattle.packet.specs.Heads.{read_head}
use Rattle.packet.specs.Packets.{packet_bytes}

-- what a request says
pub record RequestParts : Type 0 where
  pub form : Form
  pub command : Coded Command
  pub param : ℕ
  pub size : ℕ
  pub flag : ℕ
  pub «data» : List ℕ

abbrev pub request_parts : Request → RequestParts
request_parts q = record {
  form = q.form;
  command = q.command;
  param = q.param;
  size = q.size;
  flag = q.flag;
  «data» = q.«data».now;
}

-- a request whose command carries data has as much as Size says
abbrev pub has_data : RequestParts → Bool
has_data q = not (asks_with_data q.command) || length q.«data» == q.size

abbrev pub seen_request : Result Request Refusal → Result RequestParts Refusal
seen_request (Ok q) = Ok (request_parts q)
seen_request (Err e) = Err e

-- a network packet is for the module of its number, and with the number 0 for every module
abbrev pub is_for : ℕ → Form → Bool
is_for own Standard = true
is_for own (Network n) = n == own || n == 0

-- a request has nothing behind its data
abbrev pub nothing_behind : Result (List ℕ × List ℕ) Refusal → Result (List ℕ) Refusal
nothing_behind (Ok x) = cond (length x.1 == 0) (Ok x.0) (Err DataLength)
nothing_behind (Err e) = Err e

abbrev pub with_data : Head → Result (List ℕ) Refusal → Result RequestParts Refusal
with_data h (Ok bs) =
    Ok (record { form = h.form; command = h.command; param = h.param; size = h.size; flag = h.flag; «data» = bs })
with_data h (Err e) = Err e

-- the tests behind those of the packet itself: terminal number, then data
abbrev pub request_of : ℕ → Result (Head × List ℕ) Refusal → Result RequestParts Refusal
request_of own (Ok x) =
    cond (is_for own x.0.form)
    (with_data x.0 (nothing_behind (split_data (asks_with_data x.0.command) x.0.size x.1)))
    (Err Terminal)
request_of own (Err e) = Err e

-- a frame, as the module `own` hears it
abbrev pub read_request : NetworkMode → ℕ → List ℕ → Result RequestParts Refusal
read_request mode own xs = request_of own (read_head mode xs)

-- the bytes of a request
abbrev pub request_head : RequestParts → Head
request_head q = record { form = q.form; command = q.command; param = q.param; size = q.size; flag = q.flag }

abbrev pub request_bytes : RequestParts → List ℕ
request_bytes q = packet_bytes (request_head q) (asks_with_data q.command) q.«data»
