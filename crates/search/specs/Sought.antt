-- What a search asks, and of which templates.
use Rattle.std.specs.Prelude.{ℕ, Bool, List}
use Rattle.matcher.specs.declared.matching.Matcher.{Ghosts as Matching}
use Rattle.memory.specs.declared.Memory.{Ghosts as Remembering}
use Rattle.memory.specs.Held.{Held}
use Rattle.search.specs.declared.oldest.Search.{Search}

-- a template agrees with the scan, at the strictness
abbrev pub agrees_in : {M S : Type 0} → Matching M → Search M S → List ℕ → Bool
agrees_in f s template = f.yes s.matcher.now template s.scan.now s.strictness.value

-- the templates of the memory, oldest first
abbrev pub held_in : {M S : Type 0} → Remembering S → Search M S → List Held
held_in g s = g.held s.memory.now
