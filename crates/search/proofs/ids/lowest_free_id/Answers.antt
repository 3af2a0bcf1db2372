use Rattle.std.proofs.Common.{◌≡◌, ℕ, ◌+◌, drop, length, take, sym, subst, rules, tests, arith}
use Rattle.std.proofs.lemmas.Iterator.{YieldsList-from_slice}
use Rattle.std.proofs.lemmas.Iterator.Consumers.{count_from_yields_List, YieldsList-at}
use Rattle.std.proofs.lemmas.Iterator.Search.{YieldsList-from_take_while}
use Rattle.search.specs.Ids.{lowest_free}
use Rattle.search.specs.Laws.{IsLowestFree}
use Rattle.search.proofs.Laws.{lowest-free}
use Rattle.search.proofs.Marks.{lowest-marked}
use Rattle.search.proofs.ids.lowest_free_id.Goals as goal

pub returns : goal.returns
returns g c =
    let h = g.S.Memory.held c.args.memory.now in
    let marks = c.taken_ids-taken.result in
    let long : length marks ≡ 502 = search rules in
    let value : 1 + c.count.result ≡ lowest_free h =
    lowest-marked h marks long (omega (arith, g.met.S.Memory.within c.args.memory.now)) c.taken_ids-taken.ensures c.count.result
    (count_from_yields_List c.take_while.result c.count.result c.count.ensures.ran
    (YieldsList-from_take_while _ (λ b. b)
    (YieldsList-at c.take_while.ensures.source (YieldsList-from_slice (take 501 (drop 1 marks)) c.iter.ensures.rest))
    c.take_while.ensures.closure c.take_while.ensures.done (λ x b q k. search (rules, tests)))) in
    record { value = value; lowest = (let P : ℕ → Type 0 = λ n. IsLowestFree h n in subst P (sym value) (lowest-free h)) }
