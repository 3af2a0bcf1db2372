-- What an enrolment's scans give, and what is held then.
use Rattle.std.proofs.Common.{◌≡◌, ℕ, ◌≤◌, Bool, true, false, cond, List, [], ◌∷◌, length, take, ◌⊎◌, inl, inr, refl, arith}
use Rattle.codes.specs.declared.code.Code.TheVariants.{Success}
use Rattle.device.proofs.Remembering.{remembering}
use Rattle.machine.specs.Enrollment.{held_with}
use Rattle.machine.specs.Settings.{templates_in}
use Rattle.machine.specs.State.{State, Waiting}
use Rattle.machine.specs.Waiting.{better, done, ended, templates_of}
use Rattle.machine.specs.declared.enrollment.Enrollment.{Enrollment}
use Rattle.machine.specs.declared.settings.EnrollMode.{EnrollMode}
use Rattle.machine.specs.declared.settings.EnrollMode.TheVariants.{Once, Twice, TwoTemplates}
use Rattle.memory.specs.Held.{Held}
use Rattle.std.proofs.lemmas.List.{take_all}

-- an enrolment gives some template
pub some-template : (m : EnrollMode) → 1 ≤ templates_in m
some-template Once = omega arith
some-template Twice = omega arith
some-template TwoTemplates = omega arith

-- the better scan is as long as a template
pub better-part : (b : Bool) (size : ℕ) (one two : List ℕ) → length two ≡ size
    → take size (cond b two one) ≡ cond b two (take size one)
better-part true size one two e = take_all size two (omega arith)
better-part false size one two e = refl

pub gives-better : (m : EnrollMode) (one two : List ℕ) (q1 q2 : ℕ) → (m ≡ Once) ⊎ (m ≡ Twice)
    → templates_of m one q1 two q2 ≡ better one q1 two q2 ∷ []
gives-better m one two q1 q2 (inl e) = rw e
gives-better m one two q1 q2 (inr e) = rw e

module _ (s : State) (w : Waiting) (e : Enrollment) where
  -- templates are held, and SUCCESS is told
  pub enrolls : (templates : List (List ℕ)) (quality room : ℕ) (h : List Held) → room ≡ s.room
      → h ≡ held_with e s.held templates
      → ended (remembering s room h s.admins) w e.id quality Success ≡ done s w e templates quality
  enrolls templates quality room h r t = rw (r, t)
