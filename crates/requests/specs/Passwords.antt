-- A password in a request's data.
use Rattle.std.specs.Prelude.{ℕ, cond, not, List, length, Ok, Err, Result, ◌==◌}
use Rattle.codes.specs.declared.code.Code.{Code}
use Rattle.codes.specs.declared.code.Code.TheVariants.{TryAgain, Unsupported}
use Rattle.machine.specs.Requests.{password_at, sum_right}

-- bytes that are a password and its sum behind it
abbrev pub password_in : List ℕ → Result (List ℕ) Code
password_in bs =
    cond (not (length bs == 18)) (Err Unsupported)
    (cond (sum_right 0 bs) (Ok (password_at 0 bs)) (Err TryAgain))
