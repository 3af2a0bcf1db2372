-- Runs: lists of calls from a module's making on, the newest first, and what a call shows.
use Rattle.std.specs.Prelude.{◌≡◌, ℕ, Bool, List, map, length, Ok, Err, Result}
use Rattle.codes.specs.declared.refusal.Refusal.{Refusal}
use Rattle.packet.specs.declared.response.Outcome.{Outcome}
use Rattle.machine.specs.Answers.{Step}
use Rattle.machine.specs.Machine.{Call, after, out_after, step_of, work_after, written_by}
use Rattle.machine.specs.State.{State, fresh}

-- a module that a list of calls has led to from its making, over some matcher and memory
pub record Reached (s : State) : Type 0 where
  pub agree : List ℕ → List ℕ → ℕ → Bool
  pub size : ℕ
  pub room : ℕ
  pub own : ℕ
  pub calls : List Call
  pub led : s ≡ after (fresh agree size room own) calls

-- the outcomes of a call, or its refusal
abbrev pub answered : Result Step Refusal → Result (List Outcome) Refusal
answered (Ok x) = Ok (map (λ y. y.outcome) x.said)
answered (Err e) = Err e

-- all that a call shows: its answer, the count of bytes written, and both buffers afterwards
pub record Shown : Type 0 where
  pub answer : Result (List Outcome) Refusal
  pub count : ℕ
  pub out : List ℕ
  pub work : List ℕ

abbrev pub shown : State → Call → Shown
shown s c = record {
  answer = answered (step_of s c);
  count = length (written_by s (step_of s c));
  out = out_after s c;
  work = work_after c;
}
