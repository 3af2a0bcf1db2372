-- Worked examples, which the definitions compute.
use Rattle.std.specs.Prelude.{ℕ, List, [], replicate, slice_index}
use Rattle.codes.specs.declared.code.Code.TheVariants.{Success}
use Rattle.codes.specs.declared.command.Command.TheVariants.{Enroll, ListTemplates}
use Rattle.codes.specs.declared.numbered.Coded.TheVariants.{Known}
use Rattle.packet.specs.declared.form.Form.TheVariants.{Standard}
use Rattle.packet.specs.declared.response.Outcome.{Outcome}
use Rattle.packet.specs.Numbers.{bytes16, password_sum}
use Rattle.packet.specs.Requests.{RequestParts, request_bytes}
use Rattle.packet.specs.Responses.{outcome_bytes}

-- ES for the ID 0x9929
abbrev pub enrolls9929 : RequestParts
enrolls9929 = record { form = Standard; command = Known Enroll; param = 0x9929; size = 0; flag = 0; «data» = [] }

-- LT answers three IDs
abbrev pub lists_three : Outcome
lists_three = record { command = Known ListTemplates; param = 3; size = 12; code = Success }

abbrev pub enroll_checksum : ℕ
enroll_checksum = slice_index (request_bytes enrolls9929) 11

abbrev pub list_checksum : List ℕ → ℕ
list_checksum ids = slice_index (outcome_bytes Standard lists_three ids) 11

-- the sum of the password whose bytes are all 0xFF
abbrev pub highest_password : List ℕ
highest_password = bytes16 (password_sum (replicate 16 0xFF))
