use Rattle.std.proofs.Common.{◌≡◌, length, map, take, drop}
use Rattle.search.specs.Oldest.{oldest, oldest_from, passes}
use Rattle.search.specs.Sought.{agrees_in, held_in}
use Rattle.search.proofs.oldest.Search.oldest.Given as goal

abbrev pub invariant-loop-place : goal.invariant-loop-place
invariant-loop-place g l =
    let ok = passes (g.A.Allowed.allowed l.allowed) (agrees_in g.M.Matcher l.self) in
    let h = held_in g.S.Memory l.self in record {
      looked : oldest_from ok (take l.place h) (drop l.place h) ≡ oldest ok h;
      room : length l.work ≡ length l.initial.work;
      kept : take l.place l.older ≡ map (λ e. e.id) (take l.place h);
      long : length l.older ≡ 500;
    }
