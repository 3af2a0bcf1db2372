-- What is written is read again as what it was.
use Rattle.std.specs.Prelude.{◌≡◌, ℕ, ◌^◌, ◌<◌, Bool, true, false, List, [], ◌∷◌, length, Some, None, Ok, Option}
use Rattle.codes.specs.declared.command.Command.{Command}
use Rattle.codes.specs.declared.network.NetworkMode.{NetworkMode}
use Rattle.codes.specs.declared.network.NetworkMode.TheVariants.{Single, Network as Networked}
use Rattle.codes.specs.declared.numbered.Coded.{Coded}
use Rattle.codes.specs.Coded.{coded, byte_of}
use Rattle.codes.specs.Commands.{command_number, commands}
use Rattle.packet.specs.declared.form.Form.{Form}
use Rattle.packet.specs.declared.form.Form.TheVariants.{Standard, Network}
use Rattle.packet.specs.declared.response.Outcome.{Outcome}
use Rattle.packet.specs.declared.response.Reply.{Reply}
use Rattle.packet.specs.Data.{asks_with_data}
use Rattle.packet.specs.Requests.{RequestParts, is_for}
use Rattle.packet.specs.Responses.{ResponseParts, answered, carries, read_response, reply_form}

-- a command as its byte is read: no byte of a known command is kept as an unknown one
abbrev pub AsRead : Coded Command → Type 0
AsRead c = coded command_number commands (byte_of command_number c) ≡ c

-- data that belongs behind a packet: Size bytes where it carries any, else none
abbrev pub Belongs : Bool → ℕ → List ℕ → Type 0
Belongs true size bs = length bs ≡ size
Belongs false size bs = bs ≡ []

-- the forms that a mode hears, with a terminal number of two bytes
abbrev pub HeardIn : NetworkMode → Form → Type 0
HeardIn Single Standard = Unit {0}
HeardIn Single (Network n) = ⊥
HeardIn Networked Standard = ⊥
HeardIn Networked (Network n) = n < 2 ^ 16

-- a request that the module `own` hears in a mode
pub record Heard (mode : NetworkMode) (own : ℕ) (q : RequestParts) : Type 0 where
  pub form_heard : HeardIn mode q.form
  pub for_it : is_for own q.form ≡ true
  pub as_read : AsRead q.command
  pub param_fits : q.param < 2 ^ 32
  pub size_fits : q.size < 2 ^ 32
  pub data_belongs : Belongs (asks_with_data q.command) q.size q.«data»

-- bytes that read as some responses, one right behind the other, and nothing more
abbrev pub ReadAs : List ℕ → List ResponseParts → Type 0
ReadAs xs [] = xs ≡ []
ReadAs xs (p ∷ ps) = (ys : List ℕ) × ((read_response xs ≡ Ok (p, ys)) × ReadAs ys ps)

-- what is sent of a reply: its outcome in the form of its request, and nothing for a broadcast
abbrev pub sent_in : Option Form → Outcome → List ℕ → List ResponseParts
sent_in None o bs = []
sent_in (Some form) o bs = answered form o bs ∷ []

abbrev pub sent : ℕ → Reply → List ResponseParts
sent own y = sent_in (reply_form own y.to) y.outcome y.«data».now

-- a reply whose command was read from a packet, with the data that belongs to its outcome
pub record Proper (y : Reply) : Type 0 where
  pub as_read : AsRead y.outcome.command
  pub data_belongs : Belongs (carries y.outcome) y.outcome.size y.«data».now
