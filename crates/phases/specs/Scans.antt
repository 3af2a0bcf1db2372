-- Which scans are no good.
use Rattle.std.specs.Prelude.{ℕ, Some, None, Option}
use Rattle.codes.specs.declared.code.Code.{Code}
use Rattle.machine.specs.Waiting.{judged}

-- what is told of one that is none
abbrev pub scan_fault : ℕ → ℕ → ℕ → Option Code
scan_fault long size quality = judged long size quality Some None
