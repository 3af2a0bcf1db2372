-- A request waits, and a finger comes, or a second passes.
use Rattle.std.proofs.Common.{◌≡◌, ℕ, ◌≤◌, cond, not, ◌||◌, eqb, ltb, Bool, true, false, List, [], ◌∷◌, length, Some}
use Rattle.std.proofs.Common.{None, Ok, Option, refl, ap, ◌∙◌, arith}
use Rattle.codes.specs.declared.code.Code.{Code}
use Rattle.codes.specs.declared.code.Code.TheVariants.{ScanFail, TimeOut, TryAgain}
use Rattle.device.specs.View.{phase_of, view, waiting_of}
use Rattle.device.specs.declared.awaited.Awaited.{Awaited}
use Rattle.device.specs.declared.keeping.Device.{Device}
use Rattle.machine.specs.Answers.{Step, go, tell}
use Rattle.machine.specs.State.{Phase, State, Waiting, awaiting}
use Rattle.machine.specs.Waiting.{on_finger, on_second, pressed}
use Rattle.matcher.specs.declared.matching.Matcher.{Ghosts as Matching}
use Rattle.memory.specs.declared.Memory.{Ghosts as Remembering}
use Rattle.packet.specs.declared.form.Form.{Form}
use Rattle.packet.specs.declared.request.Request.{Request}
use Rattle.phases.specs.Events.{as_came, decided, spoiled}
use Rattle.phases.specs.Scans.{scan_fault}
use Rattle.phases.specs.Told.{waiting_for}
use Rattle.phases.specs.declared.good.GoodScan.{GoodScan}
use Rattle.phases.specs.declared.scan.Event.{Event}
use Rattle.phases.specs.declared.scan.Event.TheVariants.{Finger}
use Rattle.std.proofs.lemmas.Bool.Decides.{nat_tests}

-- the last second of a wait ends it
pub times_out : (s : State) (form : Form) (left : ℕ) (p : Option Phase) → left ≡ 1
    → spoiled s (waiting_of form left p) TimeOut ≡ on_second s (waiting_of form left p)
times_out s form left None last = refl
times_out s form left (Some x) last = rw last

-- a good scan
pub good : (s : State) (w : Waiting) (scan : List ℕ) (quality : ℕ) → length scan ≡ s.size → 30 ≤ quality → quality ≤ 100
    → pressed s w w.phase scan quality ≡ on_finger s (Some w) scan quality
good s w scan quality long clear within = grind (arith, nat_tests)

pub presses : {M S : Type 0} (f : Matching M) (g : Remembering S) (d : Device M S) (event : Event Request (GoodScan S g))
    (x : GoodScan S g) (a : Awaited) (p : Phase) (r : Step) → event ≡ Finger x → d.awaited ≡ a
    → phase_of g.T d.first a ≡ Some p → r ≡ pressed (view f g d) (waiting_for d p) p x.bytes.now x.quality
    → Ok r ≡ decided (view f g d) (as_came event)
presses f g d event x a p r comes waits there e =
    rw (comes, waits, there)
    (ap Ok (e ∙ good (view f g d) (waiting_for d p) x.bytes.now x.quality x.long x.clear x.within))

-- a bad scan
pub spoils : (s : State) (o : Option Waiting) (scan : List ℕ) (quality : ℕ) (code : Code)
    → Some code ≡ scan_fault (length scan) s.size quality → spoiled s o code ≡ on_finger s o scan quality
spoils s None scan quality code e = refl
spoils s (Some w) scan quality code e = at (not (eqb (length scan) s.size) || ltb 100 quality) (ltb quality 30) e
  where
    at : (a b : Bool) → Some code ≡ cond a (Some ScanFail) (cond b (Some TryAgain) None)
        → go (awaiting s None) (tell w 0 0 code ∷ [])
        ≡ cond a (go (awaiting s None) (tell w 0 0 ScanFail ∷ []))
        (cond b (go (awaiting s None) (tell w 0 0 TryAgain ∷ [])) (pressed s w w.phase scan quality))
    at true b e = let k : code ≡ ScanFail = cc in rw k
    at false true e = let k : code ≡ TryAgain = cc in rw k
    at false false e = absurd (cc)
