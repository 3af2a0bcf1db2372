-- A template that came as data is enrolled.
use Rattle.std.proofs.Common.{◌≡◌, ℕ, Bool, false, cond, not, ◌&&◌, List, [], ◌∷◌, ◌++◌, length, sym, ap, ◌∙◌}
use Rattle.codes.specs.declared.code.Code.TheVariants.{ExistFinger, Success, Unsupported}
use Rattle.device.proofs.Remembering.{remembering}
use Rattle.device.specs.View.{went}
use Rattle.device.specs.declared.answers.Answers.{Answers}
use Rattle.device.specs.declared.answers.Answers.TheVariants.{One}
use Rattle.machine.specs.Answers.{Step, answer, go, just, outcome}
use Rattle.machine.specs.Enrollment.{enrolled, looks_up, staying}
use Rattle.machine.specs.Requests.{enroll, enroll_now, enroll_template}
use Rattle.machine.specs.Searches.{any_agrees}
use Rattle.machine.specs.State.{State}
use Rattle.machine.specs.declared.enrollment.Enroller.TheVariants.{Host}
use Rattle.machine.specs.declared.enrollment.Enrollment.{Enrollment}
use Rattle.memory.specs.Held.{Held}
use Rattle.packet.specs.Requests.{RequestParts}
use Rattle.requests.specs.Sizes.{sized}
use Rattle.std.proofs.lemmas.Bool.{eq-eqb}

-- its length is the memory's, so the tests and the enrolment are all that ET does
pub fits : (s : State) (q : RequestParts) (step : Step) (size : ℕ) → length q.«data» ≡ size → size ≡ s.size
    → step ≡ enroll s q Host false 1 (enroll_now s q) → step ≡ enroll_template s (sized q)
fits s q step size e f k =
    k ∙ sym (ap (λ b. cond (not b) (just s q Unsupported) (enroll s q Host false 1 (enroll_now s q))) (eq-eqb _ _ (e ∙ f)))

module _ (s : State) (q : RequestParts) (e : Enrollment) where
  -- whether the finger is held already decides
  pub decides : (b : Bool) → b ≡ (looks_up e.flag && any_agrees s q.«data»)
      → cond b (just s q ExistFinger) (go (enrolled s e (q.«data» ∷ [])) (answer q e.id 0 Success)) ≡ enroll_now s q e
  decides b k = rw k

  pub enrolls : (a : Answers) (n room : ℕ) (h : List Held)
      → a ≡ One (record { to = q.form; outcome = outcome q.command n 0 Success }) → n ≡ e.id → room ≡ s.room
      → h ≡ staying e.flag e.id s.held ++ (record { id = e.id; template = q.«data» }) ∷ []
      → false ≡ (looks_up e.flag && any_agrees s q.«data») → went (remembering s room h s.admins) a ≡ enroll_now s q e
  enrolls a n room h told it same held new = rw (told, it, same, held) (decides false new)
