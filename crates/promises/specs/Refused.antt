-- What a call leaves: of the module, and of the two buffers that it was lent.
use Rattle.std.specs.Prelude.{◌≡◌, ℕ, List, length, replicate, Ok, Err}
use Rattle.codes.specs.declared.refusal.Refusal.{Refusal}
use Rattle.codes.specs.declared.refusal.Refusal.TheVariants.{
  AnswerBuffer,
  WorkBuffer,
  TooShort,
  StartCode,
  EndCode,
  Checksum,
  Terminal,
  DataLength,
}
use Rattle.machine.specs.Answers.{Step}
use Rattle.machine.specs.Machine.{Call, next_of, out_after, step_of, work_after, written_by}
use Rattle.machine.specs.State.{State}

abbrev pub cleared : List ℕ → List ℕ
cleared work = replicate (length work) 0

-- a buffer that is too short leaves the work buffer as it was; every other refusal leaves zeros
abbrev pub work_left : Refusal → List ℕ → List ℕ
work_left AnswerBuffer work = work
work_left WorkBuffer work = work
work_left TooShort work = cleared work
work_left StartCode work = cleared work
work_left EndCode work = cleared work
work_left Checksum work = cleared work
work_left Terminal work = cleared work
work_left DataLength work = cleared work

-- a refused call: the module and the answer buffer stay as they were
pub record Left (s : State) (c : Call) (e : Refusal) : Type 0 where
  pub state : next_of s (step_of s c) ≡ s
  pub count : length (written_by s (step_of s c)) ≡ 0
  pub out : out_after s c ≡ c.out
  pub work : work_after c ≡ work_left e c.work

abbrev pub RefusalsLeave : Type 0
RefusalsLeave = (s : State) (c : Call) (e : Refusal) → step_of s c ≡ Err e → Left s c e

-- a call that is answered leaves zeros in the work buffer
abbrev pub AnswersClear : Type 0
AnswersClear = (s : State) (c : Call) (x : Step) → step_of s c ≡ Ok x → work_after c ≡ cleared c.work
