use Rattle.std.proofs.Common.{◌++◌, drop, ap, ◌∙◌}
use Rattle.std.proofs.lemmas.List.{take-append-drop}
use Rattle.requests.proofs.starting.start.Goals as goal

pub returns-then-not-has_data-clause-untouched : goal.returns-then-not-has_data-clause-untouched
returns-then-not-has_data-clause-untouched g c =
    ap (λ front. front ++ drop 384 c.args.work.now) c.in-Some.ensures.cases.same ∙ take-append-drop 384 c.args.work.now
