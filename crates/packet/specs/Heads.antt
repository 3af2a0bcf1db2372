use Rattle.std.specs.Prelude.{ℕ, ◌+◌, ◌-◌, Bool, cond, not, List, [], ◌∷◌, ◌++◌, length, take, drop, Some, None, Ok}
use Rattle.std.specs.Prelude.{Err, Option, Result, ◌==◌, nat_lt, slice_index}
use Rattle.std.specs.Borrow.{Bor}
use Rattle.codes.specs.declared.command.Command.{Command}
use Rattle.codes.specs.declared.network.NetworkMode.{NetworkMode}
use Rattle.codes.specs.declared.network.NetworkMode.TheVariants.{Single, Network as Networked}
use Rattle.codes.specs.declared.numbered.Coded.{Coded}
use Rattle.codes.specs.declared.refusal.Refusal.{Refusal}
use Rattle.codes.specs.declared.refusal.Refusal.TheVariants.{TooShort, StartCode, EndCode, Checksum}
use Rattle.codes.specs.Coded.{coded, byte_of}
use Rattle.codes.specs.Commands.{command_number, commands}
use Rattle.packet.specs.declared.form.Form.{Form}
use Rattle.packet.specs.declared.form.Form.TheVariants.{Standard, Network}
use Rattle.packet.specs.declared.form.Head.{Head}
use Rattle.packet.specs.Numbers.{checksum_of, le16, le32, bytes16, bytes32}

-- the length of a packet without data
abbrev pub head_length : Form → ℕ
head_length Standard = 13
head_length (Network n) = 15

-- the start code, and the terminal number of a network packet
abbrev pub start_bytes : Form → List ℕ
start_bytes Standard = 0x40 ∷ []
start_bytes (Network n) = 0x41 ∷ bytes16 n

-- command, Param, Size, and the flag of a request or the code of a response
abbrev pub field_bytes : Coded Command → ℕ → ℕ → ℕ → List ℕ
field_bytes command param size flag = byte_of command_number command ∷ (bytes32 param ++ (bytes32 size ++ flag ∷ []))

-- the bytes that the checksum is over
abbrev pub summed_bytes : Head → List ℕ
summed_bytes h = start_bytes h.form ++ field_bytes h.command h.param h.size h.flag

-- some bytes with their checksum and the end code
abbrev pub closed : List ℕ → List ℕ
closed bs = bs ++ checksum_of bs ∷ 0x0A ∷ []

-- a packet without data
abbrev pub head_bytes : Head → List ℕ
head_bytes h = closed (summed_bytes h)

-- the fields of a packet whose command stands at a place
abbrev pub fields_at : Form → ℕ → List ℕ → Head
fields_at form i xs = record {
  form = form;
  command = coded command_number commands (slice_index xs i);
  param = le32 xs (i + 1);
  size = le32 xs (i + 5);
  flag = slice_index xs (i + 9);
}

-- the first test that fails, in their order: start code, end code, checksum
abbrev pub flaw : Bool → Bool → Bool → Option Refusal
flaw start end sum =
    cond (not start) (Some StartCode) (cond (not end) (Some EndCode) (cond (not sum) (Some Checksum) None))

abbrev pub unless : {X : Type 0} → Option Refusal → X → Result X Refusal
unless (Some e) x = Err e
unless None x = Ok x

-- the tests of a packet of n bytes: its length comes before the others
abbrev pub tested : {X : Type 0} → ℕ → ℕ → List ℕ → X → Result X Refusal
tested start n xs x =
    cond (nat_lt (length xs) n) (Err TooShort)
    (unless (flaw (slice_index xs 0 == start) (slice_index xs (n - 1) == 0x0A)
    (slice_index xs (n - 2) == checksum_of (take (n - 2) xs))) x)

-- the packet at the front of some bytes, in the form that is heard, and the bytes behind it
abbrev pub read_head : NetworkMode → List ℕ → Result (Head × List ℕ) Refusal
read_head Single xs = tested 0x40 13 xs (fields_at Standard 1 xs, drop 13 xs)
read_head Networked xs = tested 0x41 15 xs (fields_at (Network (le16 xs 1)) 3 xs, drop 15 xs)

-- a packet that was read, with the bytes behind it as a list
abbrev pub seen_head : Result (Head × Bor (List ℕ)) Refusal → Result (Head × List ℕ) Refusal
seen_head (Ok x) = Ok (x.0, x.1.now)
seen_head (Err e) = Err e
