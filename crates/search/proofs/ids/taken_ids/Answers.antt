use Rattle.std.proofs.Common.{false, refl}
use Rattle.std.proofs.lemmas.List.{get_or-replicate}
use Rattle.search.proofs.ids.taken_ids.Goals as goal

pub loop-place-init : goal.loop-place-init
loop-place-init g c = (refl, λ id l. get_or-replicate 502 id false false l)
