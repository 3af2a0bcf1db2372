-- What a line makes of the module, and what is printed for it.
use Rattle.std.specs.Prelude.{ℕ, List, [], ◌∷◌, ◌++◌, Some, None, Ok, Err, Option, Result}
use Rattle.benchline.specs.Lines.{Asked, bench_line}
use Rattle.benchline.specs.Lines.Asked.{packet, finger, second}
use Rattle.benchline.specs.declared.fault.IllFormed.{IllFormed}
use Rattle.machine.specs.Machine.{Event, next_of, on_event}
use Rattle.machine.specs.Machine.Event.{packet as a_packet, finger as a_finger, second as a_second}
use Rattle.machine.specs.Printed.{line_of}
use Rattle.machine.specs.State.{State}
use Rattle.session.specs.Printed.{unasked}

-- what a line asks, as what comes to the machine
abbrev pub event_of : Asked → Event
event_of (packet frame) = a_packet frame
event_of (finger quality scan) = a_finger scan quality
event_of second = a_second

-- what is printed: the machine's answer, or that nothing was asked; a line end (10) closes it
abbrev pub asked_text : State → Result Asked IllFormed → List ℕ
asked_text s (Ok a) = line_of s (on_event s (event_of a)) ++ 10 ∷ []
asked_text s (Err e) = unasked ++ 10 ∷ []

abbrev pub line_answer : State → List ℕ → List ℕ
line_answer s line = asked_text s (bench_line line)

-- the module afterwards: an ill-formed line leaves it as it is
abbrev pub asked_next : State → Result Asked IllFormed → State
asked_next s (Ok a) = next_of s (on_event s (event_of a))
asked_next s (Err e) = s

abbrev pub line_next : State → List ℕ → State
line_next s line = asked_next s (bench_line line)

-- why a line is ill-formed, if it is
abbrev pub fault_in : Result Asked IllFormed → Option IllFormed
fault_in (Ok a) = None
fault_in (Err e) = Some e

abbrev pub line_fault : List ℕ → Option IllFormed
line_fault line = fault_in (bench_line line)
