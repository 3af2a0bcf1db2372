-- The ways of a step: what holds on each holds of the step.
use Rattle.std.proofs.Common.{◌≡◌, ℕ, ◌+◌, ◌-◌, Bool, true, false, cond, not, ◌&&◌, ◌||◌, eqb, ltb, [], ◌∷◌, length}
use Rattle.std.proofs.Common.{Some, None, Option, sym, refl, ap, ◌∙◌, subst, arith}
use Rattle.codes.specs.Commands.{command_number, commands}
use Rattle.codes.specs.Numbers.{case_of}
use Rattle.std.proofs.lemmas.Bool.{eqb-true}
use Rattle.codes.specs.declared.code.Code.{Code}
use Rattle.codes.specs.declared.code.Code.TheVariants.{ExistId, FingerLimit, MemFull}
use Rattle.codes.specs.declared.command.Command.{Command}
use Rattle.codes.specs.declared.command.Command.TheVariants.{
  WriteParameter,
  ReadParameter,
  Enroll,
  EnrollTemplate,
  Verify,
  Identify,
  ReadTemplate,
  Delete,
  DeleteAll,
  ListTemplates,
  Cancel,
  WriteLevel,
  EnrollByAdministrator,
  DeleteByAdministrator,
  Unlock,
  Lock,
  ChangePassword,
}
use Rattle.codes.specs.declared.numbered.Coded.{Coded}
use Rattle.codes.specs.declared.numbered.Coded.TheVariants.{Known, Unknown}
use Rattle.codes.specs.declared.flag.EnrollFlag.{EnrollFlag}
use Rattle.packet.specs.Data.{known_among}
use Rattle.packet.specs.Requests.{RequestParts}
use Rattle.search.specs.Ids.{count_of}
use Rattle.machine.specs.Answers.{Step}
use Rattle.machine.specs.Enrollment.{adds, enroll_fault, needs_none}
use Rattle.machine.specs.Requests.{given, started, unless, unlock}
use Rattle.machine.specs.State.{State}

pub by-test : {X : Type 0} (P : X → Type 0) (b : Bool) (x y : X) → (b ≡ true → P x) → (b ≡ false → P y) → P (cond b x y)
by-test P true x y p q = p refl
by-test P false x y p q = q refl

pub never : {Y : Type 0} → false ≡ true → Y
never e = let z : ◌≡◌ {A = ℕ} 0 1 = cc in absurd (omega arith)

-- a test that is known
pub at_true : {X : Type 0} (P : X → Type 0) (b : Bool) (x y : X) → b ≡ true → P x → P (cond b x y)
at_true P true x y e p = p
at_true P false x y e p = never e

-- the same test on both sides
pub both_ways : {X : Type 0} (R : X → X → Type 0) (b : Bool) (x x' y y' : X) → (b ≡ true → R x x') → (b ≡ false → R y y')
    → R (cond b x y) (cond b x' y')
both_ways R true x x' y y' p q = p refl
both_ways R false x x' y y' p q = q refl

pub by-given : {X : Type 0} (P : Step → Type 0) (o : Option X) (other : Step) (f : X → Step) → P other
    → ((x : X) → P (f x)) → P (given o other f)
by-given P None other f p q = p
by-given P (Some x) other f p q = q x

-- something that is needed, and what it is when it is there
pub given-some : {X : Type 0} (P : Step → Type 0) (o : Option X) (other : Step) (f : X → Step)
    → P other → ((x : X) → o ≡ Some x → P (f x)) → P (given o other f)
given-some P None other f p q = p
given-some P (Some x) other f p q = q x refl

pub by-unless : (P : Step → Type 0) (o : Option Code) (fail : Code → Step) (step : Step) → ((k : Code) → P (fail k))
    → P step → P (unless o fail step)
by-unless P None fail step p q = q
by-unless P (Some k) fail step p q = p k

-- what may stand in the way of an enrolment
pub by-fault : (P : Step → Type 0) (s : State) (flag : EnrollFlag) (id needed : ℕ) (fail : Code → Step) (step : Step)
    → P (fail ExistId) → P (fail FingerLimit) → P (fail MemFull) → (enroll_fault s flag id needed ≡ None → P step)
    → P (unless (enroll_fault s flag id needed) fail step)
by-fault P s flag id needed fail step a b c =
    let R : Option Code → Type 0 = λ o. (o ≡ None → P step) → P (unless o fail step) in
    by-test R (needs_none flag && not (eqb (count_of id s.held) 0)) _ _ (λ _ _. a) (λ _.
    by-test R (adds flag && ltb 10 (count_of id s.held + needed)) _ _ (λ _ _. b) (λ _.
    by-test R (ltb (s.room - length s.held) needed) _ _ (λ _ _. c) (λ _ d. d refl)))

pub some-none : {X Y : Type 0} (x : X) → None ≡ Some x → Y
some-none x e = let z : ◌≡◌ {A = ℕ} 0 1 = cc in absurd (omega arith)

-- a command's number is no other command's
own-number : (c : Command) → case_of command_number commands (command_number c) ≡ Some c
own-number WriteParameter = refl
own-number ReadParameter = refl
own-number Enroll = refl
own-number EnrollTemplate = refl
own-number Verify = refl
own-number Identify = refl
own-number ReadTemplate = refl
own-number Delete = refl
own-number DeleteAll = refl
own-number ListTemplates = refl
own-number Cancel = refl
own-number WriteLevel = refl
own-number EnrollByAdministrator = refl
own-number DeleteByAdministrator = refl
own-number Unlock = refl
own-number Lock = refl
own-number ChangePassword = refl

or-false : (b : Bool) → (b || false) ≡ true → b ≡ true
or-false true e = refl
or-false false e = never e

pub is-command : (d : Command) (c : Coded Command) → known_among command_number (d ∷ []) c ≡ true → c ≡ Known d
is-command d (Known c) e =
    let k : command_number c ≡ command_number d =
    eqb-true (command_number c) (command_number d) (or-false (eqb (command_number c) (command_number d)) e) in
    let z : Some c ≡ Some d = sym (own-number c) ∙ ap (case_of command_number commands) k ∙ own-number d in
    cc
is-command d (Unknown n) e = never e

pub only-unlock : (P : Step → Type 0) (s : State) (q : RequestParts) (c : Coded Command) → known_among command_number (Unlock ∷ []) c ≡ true
    → P (unlock s q) → P (started s q c)
only-unlock P s q c e p = let Q : Coded Command → Type 0 = λ x. P (started s q x) in subst Q (sym (is-command Unlock c e)) p
