use Rattle.std.proofs.Common.{◌≡◌, Bool, false, Some, None, Option, rules}
use borrow.Author.Tests.{tests}
use Rattle.std.specs.Option.{MatchOption}
use Rattle.machine.specs.Administrators.{if_any}
use Rattle.machine.specs.declared.level.Level.{Level}
use Rattle.administrators.specs.Rights.{permits}
use Rattle.administrators.proofs.permitted.PermittedAllowed.allows.Goals as goal

is-if_any : (may : Level → Bool) (o : Option Level) (P : Level → Type 0) (r : Bool) → ((l : Level) → P l → r ≡ may l)
    → MatchOption o (r ≡ false) P → r ≡ if_any may o
is-if_any may None P r f e = e
is-if_any may (Some l) P r f e = f l e

pub returns : goal.returns
returns c =
    rw (← c.level_of.ensures)
    (is-if_any (permits c.args.self.now.right) c.level_of.result _ c.is_some_and.result (λ l k. search (rules, tests))
    c.is_some_and.ensures)
