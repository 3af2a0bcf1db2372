use Rattle.std.proofs.Common.{◌-◌, ◌/◌, min, length, refl, ap, ◌∙◌, arith}
use Rattle.marked.proofs.Cases.{block_nine, block_ten, last-ids, last-length, limited, passes}
use Rattle.std.proofs.lemmas.Bool.{le-leb, lt-leb, le-ltb}
use Rattle.std.proofs.lemmas.List.{length-map}
use Rattle.marked.proofs.marked_cases.Goals as goal

pub returns : goal.returns
returns c = record {
  checksum_enrolling = λ s single. rw single;
  checksum_listing = λ s idle three. rw (idle.unlocked, idle.waits, length-map s.held (λ e. e.id) ∙ three);
  strictness = (refl, refl, refl, refl, refl);
  password_sum = refl;
  block_nine = λ s idle many. (
    last-length s.held many,
    rw (idle.unlocked, idle.waits, lt-leb (length s.held) 450 (omega arith), last-ids s.held many, last-length s.held many),
  );
  block_ten = λ s idle many. rw (idle.unlocked, idle.waits, le-leb (length s.held) 500 (omega arith));
  two_more = λ s id at room.
      rw (at.idle.unlocked, at.idle.waits, at.some_id, at.mode_there, at.many_there, le-ltb (s.room - length s.held) 2 room);
  two_too_many = λ s id at. rw (at.idle.unlocked, at.idle.waits, at.some_id, at.mode_there, at.many_there);
  one_more = λ s id at room.
      rw (at.idle.unlocked, at.idle.waits, at.some_id, at.mode_there, at.many_there, le-ltb (s.room - length s.held) 1 room);
  block_nine_listed = block_nine;
  block_ten_past = block_ten;
  two_pass = λ s id e room. passes s id 2 (omega arith) room;
  two_limited = λ s id e. limited s id 2 (omega arith);
  one_passes = λ s id e room. passes s id 1 (omega arith) room;
  angles = (refl, refl);
  one_row = λ bytes e. ap (λ n. min 500 (n / 386)) e;
  no_row = λ bytes e. ap (λ n. min 500 (n / 386)) e;
}
