use Rattle.std.proofs.Common.{Err, Result, sym, ap, ◌∙◌, subst, rules}
use Rattle.codes.specs.declared.refusal.Refusal.{Refusal}
use Rattle.device.specs.View.{view}
use Rattle.engine.specs.Seen.{call, event_of, state}
use Rattle.engine.specs.Shows.{Shows}
use Rattle.engine.specs.declared.answer.Answer.{Answer}
use Rattle.engine.proofs.Reached.{leads, ready}
use Rattle.engine.proofs.Serving.{answered, refused, within}
use Rattle.machine.specs.Machine.{next_of, step_of}
use Rattle.std.proofs.lemmas.Result.{err_from_is_err_and}
use Rattle.engine.proofs.inner.Module.serve_within.Goals as goal

pub invariant_of-self : goal.invariant_of-self
invariant_of-self g c =
    let m = c.args.self.now in
    let v = state g.M.Matcher g.S.Memory m in
    let w = view g.M.Matcher g.S.Memory c.hear.new.device in
    let k = call (event_of c.args.event) c.args.out.now c.args.work.now in
    let h = c.hear.ensures (ready v m.reached) in
    record { reached = leads v k w (h.next ∙ ap (next_of v) (sym (within v k c.requires.in_bounds c.requires.in_bounds_2))) m.reached }

pub returns-in_err-answers : goal.returns-in_err-answers
returns-in_err-answers g c =
    let v = state g.M.Matcher g.S.Memory c.args.self.now in
    let w = view g.M.Matcher g.S.Memory c.hear.new.device in
    let k = call (event_of c.args.event) c.args.out.now c.args.work.now in
    let p = err_from_is_err_and c.from_residual.result c.from_residual.ensures.1 in
    let R : Result Answer Refusal → Type 0 = λ a. Shows v k.event (step_of v k) a w k.out k.out in
    record {
      shows = subst R (sym (p.1 ∙ ap Err p.2))
          (refused v k w (within v k c.requires.in_bounds c.requires.in_bounds_2) _
          (c.in_err-answers.ensures (ready v c.args.self.now.reached)));
      cleared = search rules;
    }

pub returns : goal.returns
returns g c =
    let v = state g.M.Matcher g.S.Memory c.args.self.now in
    let w = view g.M.Matcher g.S.Memory c.hear.new.device in
    let k = call (event_of c.args.event) c.args.out.now c.args.work.now in
    record {
      shows = answered v k w (within v k c.requires.in_bounds c.requires.in_bounds_2) _ _ _ _
          (c.in_ok-answers.ensures (ready v c.args.self.now.reached)) c.write_answers-count.ensures
          (c.outcomes_of.ensures _) (g.met.S.Memory.sound c.args.self.now.device.memory);
      cleared = search rules;
    }
