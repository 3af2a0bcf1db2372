use Rattle.std.proofs.Common.{ap, is_some, ◌∙◌}
use Rattle.requests.proofs.Numbered.{first_there}
use Rattle.requests.proofs.fields.has_any.Goals as goal

pub returns : goal.returns
returns g c = c.is_some.ensures ∙ ap is_some c.place_of.ensures.value ∙ first_there c.args.id (g.S.Memory.held c.args.memory.now)
