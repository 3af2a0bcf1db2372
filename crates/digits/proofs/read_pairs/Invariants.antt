use Rattle.std.proofs.Common.{◌≡◌, ◌*◌, drop, vec_items, vec_len, vec_capacity}
use Rattle.digits.specs.Digits.{bytes_from, hex_bytes}
use Rattle.digits.proofs.Pairs.{after}
use Rattle.digits.proofs.read_pairs.Given as goal

abbrev pub invariant-loop-index : goal.invariant-loop-index
invariant-loop-index l = record {
  read : after (vec_items l.bytes) (bytes_from (2 * l.index) (drop (2 * l.index) l.digits)) ≡ hex_bytes l.digits;
  count : vec_len l.bytes ≡ l.index;
  same : vec_capacity l.bytes ≡ vec_capacity l.initial.bytes;
}
