use Rattle.std.proofs.Common.{◌≡◌, ◌+◌, ◌*◌, ◌≤◌, ◌++◌, length, take, vec_items, vec_len, vec_capacity}
use Rattle.digits.specs.Digits.{hex_text}
use Rattle.digits.proofs.write_hex.Given as goal

abbrev pub invariant-loop-b : goal.invariant-loop-b
invariant-loop-b l =
    (vec_items l.text ≡ vec_items l.initial.text ++ hex_text (take l.b-index l.bytes))
    × (vec_len l.text ≡ vec_len l.initial.text + 2 * l.b-index)
    × (vec_len l.initial.text + 2 * length l.bytes ≤ vec_capacity l.text)
