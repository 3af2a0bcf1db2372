use Rattle.std.proofs.Common.{◌*◌, ◌<◌, ◌≤◌, length, get_or, sum_by, arith, rules}
use Rattle.std.proofs.lemmas.Iterator.{YieldsList-from_map, YieldsList-from_slice}
use Rattle.std.proofs.lemmas.Iterator.Consumers.{fits_by_from_yields_list}
use Rattle.std.proofs.lemmas.List.Elements.{All-from_get_or}
use Rattle.std.proofs.lemmas.List.Sums.{sum_by-le}
use Rattle.packet.proofs.password.password_sum.Goals as goal

pub sum-requires-clause-fits : goal.sum-requires-clause-fits
sum-requires-clause-fits c =
    let bs = c.args.password.now in
    let all = All-from_get_or (λ b. b ≤ 255) bs 0 (λ i _. let fits : get_or bs i 0 < 256 = c.fits-password i in omega arith) in
    let high : sum_by (λ b. b) bs ≤ length bs * 255 = sum_by-le (λ b. b) 255 bs all in
    fits_by_from_yields_list (λ b. b) bs c.map.result 65536
    (YieldsList-from_map _ (λ b. b) (YieldsList-from_slice bs cc) c.map.ensures.closure (λ x r q k. search rules))
    (omega arith)
