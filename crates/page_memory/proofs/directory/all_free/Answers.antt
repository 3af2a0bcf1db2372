use Rattle.std.proofs.Common.{rules}
use Rattle.page_memory.specs.Pages.{blank}
use Rattle.page_memory.proofs.directory.all_free.Goals as goal

pub returns-clause-numbered : goal.returns-clause-numbered
returns-clause-numbered c = λ k l. let r = c.from_fn.ensures.items.at k blank l in search rules
