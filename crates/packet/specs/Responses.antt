use Rattle.std.specs.Prelude.{ℕ, Bool, cond, List, [], Some, None, Ok, Err, Option, Result, ◌==◌, slice_index}
use Rattle.std.specs.Borrow.{Bor}
use Rattle.codes.specs.declared.code.Code.{Code}
use Rattle.codes.specs.declared.command.Command.{Command}
use Rattle.codes.specs.declared.network.NetworkMode.TheVariants.{Single, Network as Networked}
use Rattle.codes.specs.declared.numbered.Coded.{Coded}
use Rattle.codes.specs.declared.numbered.Coded.TheVariants.{Known}
use Rattle.codes.specs.declared.refusal.Refusal.{Refusal}
use Rattle.codes.specs.Coded.{coded}
use Rattle.codes.specs.Codes.{code_number, all_codes}
use Rattle.packet.specs.declared.form.Form.{Form}
use Rattle.packet.specs.declared.form.Form.TheVariants.{Standard, Network}
use Rattle.packet.specs.declared.form.Head.{Head}
use Rattle.packet.specs.declared.form.Packet.{Packet}
use Rattle.packet.specs.declared.response.Outcome.{Outcome}
use Rattle.packet.specs.declared.response.Reply.{Reply}
use Rattle.packet.specs.declared.response.Response.{Response}
use Rattle.packet.specs.Data.{answers_with_data, split_data}
use Rattle.packet.specs.Heads.{read_head}
use Rattle.packet.specs.Packets.{bytes_of, packet_bytes}

-- what a response says
pub record ResponseParts : Type 0 where
  pub form : Form
  pub command : Coded Command
  pub param : ℕ
  pub size : ℕ
  pub code : Coded Code
  pub «data» : List ℕ

-- an outcome in a form, as a response says it
abbrev pub answered : Form → Outcome → List ℕ → ResponseParts
answered form o bs = record {
  form = form;
  command = o.command;
  param = o.param;
  size = o.size;
  code = Known o.code;
  «data» = bs;
}

-- the bytes of an outcome in a form
abbrev pub outcome_head : Form → Outcome → Head
outcome_head form o = record {
  form = form;
  command = o.command;
  param = o.param;
  size = o.size;
  flag = code_number o.code;
}

abbrev pub carries : Outcome → Bool
carries o = answers_with_data o.command (Known o.code)

abbrev pub outcome_bytes : Form → Outcome → List ℕ → List ℕ
outcome_bytes form o bs = packet_bytes (outcome_head form o) (carries o) bs

-- the form in which the module `own` answers a request: the request's, with its own number; none for a broadcast
abbrev pub reply_form : ℕ → Form → Option Form
reply_form own Standard = Some Standard
reply_form own (Network n) = cond (n == 0) None (Some (Network own))

-- the bytes of a reply
abbrev pub bytes_in : Option Form → Outcome → List ℕ → List ℕ
bytes_in None o bs = []
bytes_in (Some form) o bs = outcome_bytes form o bs

abbrev pub reply_bytes : ℕ → Reply → List ℕ
reply_bytes own y = bytes_in (reply_form own y.to) y.outcome y.«data».now

-- what is sent: one packet, or none
abbrev pub sent_bytes : Option Packet → List ℕ
sent_bytes None = []
sent_bytes (Some p) = bytes_of p

-- the packet at the front of some bytes, in the form that its start code says
abbrev pub either_head : List ℕ → Result (Head × List ℕ) Refusal
either_head xs = cond (slice_index xs 0 == 0x41) (read_head Networked xs) (read_head Single xs)

abbrev pub with_response_data : Head → Result (List ℕ × List ℕ) Refusal → Result (ResponseParts × List ℕ) Refusal
with_response_data h (Ok x) = Ok (
  record {
    form = h.form;
    command = h.command;
    param = h.param;
    size = h.size;
    code = coded code_number all_codes h.flag;
    «data» = x.0;
  },
  x.1,
)
with_response_data h (Err e) = Err e

abbrev pub response_of : Result (Head × List ℕ) Refusal → Result (ResponseParts × List ℕ) Refusal
response_of (Ok x) =
    with_response_data x.0
    (split_data (answers_with_data x.0.command (coded code_number all_codes x.0.flag)) x.0.size x.1)
response_of (Err e) = Err e

-- the response at the front of some bytes, and the bytes behind it
abbrev pub read_response : List ℕ → Result (ResponseParts × List ℕ) Refusal
read_response xs = response_of (either_head xs)

abbrev pub response_parts : Response → ResponseParts
response_parts p = record {
  form = p.form;
  command = p.command;
  param = p.param;
  size = p.size;
  code = p.code;
  «data» = p.«data».now;
}

abbrev pub seen_response : Result (Response × Bor (List ℕ)) Refusal → Result (ResponseParts × List ℕ) Refusal
seen_response (Ok x) = Ok (response_parts x.0, x.1.now)
seen_response (Err e) = Err e
