-- What the tests of an enrolment say, once each has been made.
use Rattle.std.proofs.Common.{◌≡◌, ℕ, Bool, false, Some, None, Ok, Option}
use Rattle.codes.specs.Flags.{flag_number, flags}
use Rattle.codes.specs.Numbers.{case_of}
use Rattle.codes.specs.declared.code.Code.{Code}
use Rattle.machine.specs.Answers.{Step, just}
use Rattle.machine.specs.Enrollment.{enroll_fault, enroll_id}
use Rattle.machine.specs.Requests.{enroll, unless}
use Rattle.machine.specs.State.{State}
use Rattle.machine.specs.declared.enrollment.Enrollment.{Enrollment}
use Rattle.packet.specs.Requests.{RequestParts}
use Rattle.std.specs.Option.{ok_or}

pub some_there : {A : Type 0} (o : Option A) (x : A) (code : Code) → Ok x ≡ ok_or o code → o ≡ Some x
some_there None x code e = cc
some_there (Some y) x code e = cc

-- the flag and the ID are there, no administrator is missing, and the last tests say this
pub tests-made : (s : State) (q : RequestParts) (e : Enrollment) (missing : Bool) (needed : ℕ) (fault : Option Code) (f : Enrollment → Step)
    → case_of flag_number flags q.flag ≡ Some e.flag → enroll_id s e.flag q.param ≡ Some e.id → missing ≡ false
    → fault ≡ enroll_fault s e.flag e.id needed
    → unless fault (just s q) (f e) ≡ enroll s q e.by missing needed f
tests-made s q e missing needed fault f a b m k = rw (a, b, m, k)
