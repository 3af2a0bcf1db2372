-- Calls, and what they answer: the whole machine.
use Rattle.std.specs.Prelude.{ℕ, cond, ◌||◌, List, [], ◌∷◌, ◌++◌, length, drop, replicate, Some, None, Ok, Err}
use Rattle.std.specs.Prelude.{Option, Result, nat_lt}
use Rattle.codes.specs.declared.code.Code.TheVariants.{Success, Busy, Canceled, Locked}
use Rattle.codes.specs.declared.command.Command.TheVariants.{Cancel, Unlock}
use Rattle.codes.specs.Commands.{command_number}
use Rattle.codes.specs.declared.refusal.Refusal.{Refusal}
use Rattle.codes.specs.declared.refusal.Refusal.TheVariants.{AnswerBuffer, WorkBuffer}
use Rattle.packet.specs.Data.{known_among}
use Rattle.packet.specs.Requests.{RequestParts, read_request}
use Rattle.machine.specs.Answers.{Step, answer, bytes_of, go, just, tell}
use Rattle.machine.specs.Requests.{started}
use Rattle.machine.specs.State.{State, Waiting, awaiting}
use Rattle.machine.specs.Waiting.{on_finger, on_second}

pub data Event : Type 0 where
  packet : List ℕ → Event  -- a frame
  finger : List ℕ → ℕ → Event  -- a scan and its quality
  second : Event

-- a call, with the answer buffer and the work buffer that it is lent
pub record Call : Type 0 where
  pub event : Event
  pub out : List ℕ
  pub work : List ℕ

-- a request to a module that is not locked: idle it starts; while another waits, only a cancel is heard
abbrev pub asked : State → Option Waiting → RequestParts → Step
asked s None q = started s q q.command
asked s (Some w) q =
    cond (known_among command_number (Cancel ∷ []) q.command)
    (go (awaiting s None) (tell w 0 0 Canceled ∷ answer q 0 0 Success))
    (just s q Busy)

-- a request: a locked module hears nothing but UM
abbrev pub requested : State → RequestParts → Step
requested s q =
    cond s.locked
    (cond (known_among command_number (Unlock ∷ []) q.command) (asked s s.waiting q) (just s q Locked))
    (asked s s.waiting q)

abbrev pub heard : State → Result RequestParts Refusal → Result Step Refusal
heard s (Ok q) = Ok (requested s q)
heard s (Err e) = Err e

abbrev pub on_event : State → Event → Result Step Refusal
on_event s (packet frame) = heard s (read_request s.settings.network s.own frame)
on_event s (finger scan quality) = Ok (on_finger s s.waiting scan quality)
on_event s second = Ok (on_second s s.waiting)

-- the step of a call, or its refusal: the buffers are tested before all else
abbrev pub step_of : State → Call → Result Step Refusal
step_of s c =
    cond (nat_lt (length c.out) 2048) (Err AnswerBuffer)
    (cond (nat_lt (length c.work) 384) (Err WorkBuffer) (on_event s c.event))

-- the state after a call, and after calls, the newest first: a refused call leaves the module as it was
abbrev pub next_of : State → Result Step Refusal → State
next_of s (Ok x) = x.next
next_of s (Err e) = s

abbrev pub after : State → List Call → State
after s [] = s
after s (c ∷ h) = next_of (after s h) (step_of (after s h) c)

-- the bytes that a call writes at the front of its answer buffer
abbrev pub written_by : State → Result Step Refusal → List ℕ
written_by s (Ok x) = bytes_of s.own x.said
written_by s (Err e) = []

-- the answer buffer afterwards: the bytes behind those written stay
abbrev pub out_after : State → Call → List ℕ
out_after s c = written_by s (step_of s c) ++ drop (length (written_by s (step_of s c))) c.out

-- the work buffer afterwards: zeros, unless a buffer was too short
abbrev pub work_after : Call → List ℕ
work_after c = cond (nat_lt (length c.out) 2048 || nat_lt (length c.work) 384) c.work (replicate (length c.work) 0)
