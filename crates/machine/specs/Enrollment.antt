-- Enrolling: which ID, what may stand in the way, and what is held afterwards.
use Rattle.std.specs.Prelude.{ℕ, ◌+◌, ◌-◌, Bool, true, false, cond, not, ◌&&◌, List, ◌++◌, map, length, Some, None}
use Rattle.std.specs.Prelude.{Option, ◌==◌, nat_lt}
use Rattle.codes.specs.declared.code.Code.{Code}
use Rattle.codes.specs.declared.code.Code.TheVariants.{ExistId, FingerLimit, MemFull}
use Rattle.codes.specs.declared.flag.EnrollFlag.{EnrollFlag}
use Rattle.codes.specs.declared.flag.EnrollFlag.TheVariants.{Replace, CheckId, AddNew, AutoId, CheckFinger}
use Rattle.memory.specs.Held.{Held}
use Rattle.search.specs.Ids.{count_of, lowest_free}
use Rattle.machine.specs.Ids.{is_id}
use Rattle.machine.specs.Searches.{without}
use Rattle.machine.specs.State.{State, holding}
use Rattle.machine.specs.declared.enrollment.Enrollment.{Enrollment}

-- the ID that is enrolled: the one in Param, or the lowest without any under AUTO_ID
abbrev pub enroll_id : State → EnrollFlag → ℕ → Option ℕ
enroll_id s Replace param = cond (is_id param) (Some param) None
enroll_id s CheckId param = cond (is_id param) (Some param) None
enroll_id s AddNew param = cond (is_id param) (Some param) None
enroll_id s AutoId param = Some (lowest_free s.held)
enroll_id s CheckFinger param = cond (is_id param) (Some param) None

-- the flags that add to the templates an ID has
abbrev pub adds : EnrollFlag → Bool
adds Replace = false
adds CheckId = false
adds AddNew = true
adds AutoId = false
adds CheckFinger = true

abbrev pub needs_none : EnrollFlag → Bool
needs_none Replace = false
needs_none CheckId = true
needs_none AddNew = false
needs_none AutoId = false
needs_none CheckFinger = false

abbrev pub looks_up : EnrollFlag → Bool
looks_up Replace = false
looks_up CheckId = false
looks_up AddNew = false
looks_up AutoId = false
looks_up CheckFinger = true

-- what stands in the way of so many new templates, in the order of tests; places to be replaced do not count as free
abbrev pub enroll_fault : State → EnrollFlag → ℕ → ℕ → Option Code
enroll_fault s flag id needed =
    cond (needs_none flag && not (count_of id s.held == 0)) (Some ExistId)
    (cond (adds flag && nat_lt 10 (count_of id s.held + needed)) (Some FingerLimit)
    (cond (nat_lt (s.room - length s.held) needed) (Some MemFull) None))

-- the templates that stay beside the new ones: all, but for the ID's own where these are replaced
abbrev pub staying : EnrollFlag → ℕ → List Held → List Held
staying Replace id h = without id h
staying CheckId id h = h
staying AddNew id h = h
staying AutoId id h = h
staying CheckFinger id h = h

-- the new templates are put last
abbrev pub held_with : Enrollment → List Held → List (List ℕ) → List Held
held_with e h templates = staying e.flag e.id h ++ map (λ t. record { id = e.id; template = t }) templates

-- an administrator who is replaced keeps the row
abbrev pub enrolled : State → Enrollment → List (List ℕ) → State
enrolled s e templates = holding s (held_with e s.held templates) s.admins
