use Rattle.std.proofs.Common.{◌≡◌, false, cond, not, ◌&&◌, [], ◌∷◌, length, Err, sym, ap, ◌∙◌}
use Rattle.codes.specs.Commands.{command_number}
use Rattle.codes.specs.declared.command.Command.TheVariants.{Unlock}
use Rattle.codes.specs.declared.refusal.Refusal.TheVariants.{WorkBuffer}
use Rattle.device.specs.View.{view}
use Rattle.engine.proofs.HeardAs.{is_unlock-heard, lets_through, unlocked-hears}
use Rattle.packet.specs.Data.{known_among}
use Rattle.packet.specs.Requests.{request_parts}
use Rattle.phases.specs.Events.{decided}
use Rattle.phases.specs.declared.scan.Event.TheVariants.{Packet}
use Rattle.std.proofs.lemmas.Bool.{le-ltb}
use Rattle.engine.proofs.hearing.answer.Goals as goal
use Rattle.engine.proofs.hearing.answer.Goals.{else-device-via-then-device+else-not-is_unlock, else-device-via-else-device}

pub returns-clause-value : goal.returns-clause-value
returns-clause-value g c = λ whole.
    let s = view g.M.Matcher g.S.Memory c.args.device.now in
    let q = request_parts c.args.request in
    let hears : (s.locked && not (known_among command_number (Unlock ∷ []) q.command)) ≡ false =
    elim c.else-device.branch [
      | else-device-via-then-device+else-not-is_unlock w ↦ is_unlock-heard s.locked _ (sym w.if-not-is_unlock.ensures)
      | else-device-via-else-device w ↦ unlocked-hears s.locked _ w.if-device.false
    ] in
    lets_through s q _ whole hears
    (c.decide.ensures.value tt
    ∙ ap (λ b. cond b (Err WorkBuffer) (decided s (Packet c.args.request))) (le-ltb (length c.args.work.now) 384 c.requires))
