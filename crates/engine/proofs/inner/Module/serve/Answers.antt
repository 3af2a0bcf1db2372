use Rattle.std.proofs.Common.{sym, ◌∙◌}
use Rattle.engine.specs.Seen.{call, event_of, state}
use Rattle.engine.proofs.Serving.{long-enough, serves, short-answer, short-work}
use Rattle.engine.proofs.inner.Module.serve.Goals as goal

pub returns-then-out-lt-LEAST_ANSWER_BUFFER : goal.returns-then-out-lt-LEAST_ANSWER_BUFFER
returns-then-out-lt-LEAST_ANSWER_BUFFER g c =
    short-answer (state g.M.Matcher g.S.Memory c.args.self.now)
    (call (event_of c.args.event) c.args.out.now c.args.work.now)
    c.if-out-lt-LEAST_ANSWER_BUFFER.true

pub returns-then-work-lt-LEAST_WORK_BUFFER : goal.returns-then-work-lt-LEAST_WORK_BUFFER
returns-then-work-lt-LEAST_WORK_BUFFER g c =
    short-work (state g.M.Matcher g.S.Memory c.args.self.now)
    (call (event_of c.args.event) c.args.out.now c.args.work.now)
    c.if-out-lt-LEAST_ANSWER_BUFFER.false c.if-work-lt-LEAST_WORK_BUFFER.true

pub returns : goal.returns
returns g c =
    let v = state g.M.Matcher g.S.Memory c.args.self.now in
    let k = call (event_of c.args.event) c.args.out.now c.args.work.now in
    serves v k _ _ _ _ c.serve_within.ensures.shows
    (c.serve_within.ensures.cleared ∙ sym (long-enough v k
    c.if-out-lt-LEAST_ANSWER_BUFFER.false c.if-work-lt-LEAST_WORK_BUFFER.false))
