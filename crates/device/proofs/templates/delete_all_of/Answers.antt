use Rattle.std.proofs.Common.{◌≡◌, ◌<◌, eqb, length, Some, sym, ap, ◌∙◌, arith}
use Rattle.std.proofs.lemmas.Bool.{eqb-true, eqb-false}
use Rattle.std.specs.Option.{option_eq}
use Rattle.memory.specs.Held.{held_at}
use Rattle.device.proofs.Without.{passed, taken, there}
use Rattle.device.proofs.templates.delete_all_of.Goals as goal
use Rattle.device.proofs.templates.delete_all_of.Goals.{then-eq, else-eq}

pub loop-turn-preserved : goal.loop-turn-preserved
loop-turn-preserved g c =
    let id = c.args.id in
    let before = g.S.Memory.held c.args.memory.now in
    let h = g.S.Memory.held c.loop-turn.memory in
    let turn = c.loop-turn.turn in
    let place = c.loop-turn.place in
    let inside : turn < length before = omega arith in
    let k = c.loop-turn.invariant.0 in
    let at = c.id_at.ensures ∙ there id before h turn place inside k in
    let same : c.eq.result ≡ eqb (held_at before turn).id id = c.eq.ensures ∙ ap (λ r. option_eq eqb r (Some id)) at in
    elim c.if-eq.branch [
      | then-eq w ↦
          let its = eqb-true (held_at before turn).id id (sym same ∙ w.if-eq.true) in
          let gone = taken id before h turn place inside k its _ w.take_out.ensures.after in
          rw (w.memory-is, w.place-is) (gone, w.take_out.ensures.room_same ∙ c.loop-turn.invariant.1)
      | else-eq w ↦
          let anothers = eqb-false (held_at before turn).id id (sym same ∙ w.if-eq.false) in
          let kept = passed id before h turn place inside k anothers in
          rw (w.memory-is, w.place-is) (kept, c.loop-turn.invariant.1)
    ]
