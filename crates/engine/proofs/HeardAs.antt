-- What a locked module hears, and what a frame is heard as.
use Rattle.std.proofs.Common.{◌≡◌, ℕ, Bool, true, false, cond, not, ◌&&◌, ◌||◌, List, [], ◌∷◌, is_some, OnErr, Ok, Err}
use Rattle.std.proofs.Common.{Result, sym, refl, ap, ◌∙◌, arith}
use Rattle.codes.specs.Commands.{command_number}
use Rattle.codes.specs.declared.code.Code.TheVariants.{Locked}
use Rattle.codes.specs.declared.command.Command.TheVariants.{Unlock}
use Rattle.codes.specs.declared.refusal.Refusal.{Refusal}
use Rattle.codes.specs.declared.refusal.Refusal.TheVariants.{DataLength}
use Rattle.device.specs.View.{tried}
use Rattle.device.specs.declared.answers.Answers.{Answers}
use Rattle.engine.specs.Shows.{Heard}
use Rattle.machine.specs.Answers.{Step, just}
use Rattle.machine.specs.Machine.{Event, asked, heard, next_of, on_event, requested}
use Rattle.machine.specs.Machine.Event.{packet}
use Rattle.machine.specs.State.{State}
use Rattle.packet.specs.Data.{known_among}
use Rattle.packet.specs.Requests.{RequestParts, has_data, read_request, request_bytes}

pub is_unlock-heard : (l u : Bool) → u ≡ true → (l && not u) ≡ false
is_unlock-heard true true e = refl
is_unlock-heard true false e = sym e
is_unlock-heard false u e = refl

pub unlocked-hears : (l u : Bool) → l ≡ false → (l && not u) ≡ false
unlocked-hears true u e = absurd (let z : ◌≡◌ {A = ℕ} 0 1 = cc in omega arith)
unlocked-hears false u e = refl

-- what is heard by a module that is not locked, or is UM
pub lets_through : (s : State) (q : RequestParts) (r : Result Step Refusal) → has_data q ≡ true
    → (s.locked && not (known_among command_number (Unlock ∷ []) q.command)) ≡ false
    → r ≡ cond (is_some s.waiting || has_data q) (Ok (asked s s.waiting q)) (Err DataLength) → r ≡ Ok (requested s q)
lets_through s q r whole hears e =
    e ∙ ap (λ b. cond (is_some s.waiting || b) (Ok (asked s s.waiting q)) (Err DataLength)) whole
    ∙ either (is_some s.waiting) ∙ ap Ok (passes s.locked (known_among command_number (Unlock ∷ []) q.command) hears)
  where
    either : (b : Bool) → cond {A = Result Step Refusal} (b || true) (Ok (asked s s.waiting q)) (Err DataLength) ≡ Ok (asked s s.waiting q)
    either true = refl
    either false = refl

    passes : (l u : Bool) → (l && not u) ≡ false
        → asked s s.waiting q ≡ cond l (cond u (asked s s.waiting q) (just s q Locked)) (asked s s.waiting q)
    passes true true e = refl
    passes true false e = absurd (let z : ◌≡◌ {A = ℕ} 0 1 = cc in omega arith)
    passes false u e = refl

module _ (v : State) (w : State) where
  -- a step leads to the next state, and a refusal to none
  pub next : (e : Event) (a : Result Answers Refusal) → tried w a ≡ on_event v e → OnErr a (w ≡ v) → w ≡ next_of v (on_event v e)
  next e (Ok x) step stays = ap (next_of v) step
  next e (Err x) step stays = stays ∙ ap (next_of v) step

  -- a frame that was read is heard as its request
  pub framed : (frame : List ℕ) (q : RequestParts) (a : Result Answers Refusal) → read_request v.settings.network v.own frame ≡ Ok q
      → tried w a ≡ Ok (requested v q) → OnErr a (w ≡ v) → request_bytes q ≡ frame → Heard v (packet frame) a w
  framed frame q a read went stays back =
      let step : tried w a ≡ on_event v (packet frame) = went ∙ sym (ap (heard v) read) in
      record {
        step = step;
        next = next (packet frame) a step stays;
        back = λ ok p r. ap request_bytes (same p (sym r ∙ read)) ∙ back;
      }
    where
      same : (p : RequestParts) → ◌≡◌ {A = Result RequestParts Refusal} (Ok p) (Ok q) → p ≡ q
      same p e = cc
