use Rattle.point_matcher.proofs.matching.PointMatcherMatcher.agrees.Goals as goal

pub returns : goal.returns
returns c =
    let p = c.in-Some-Some in
    rw (c.needed.ensures, c.near_count.ensures, p.ensures.points, p.ensures'.points, ← p.ensures.readable, ← p.ensures'.readable)
