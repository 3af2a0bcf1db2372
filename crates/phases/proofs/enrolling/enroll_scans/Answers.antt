use Rattle.std.proofs.Common.{◌≡◌, cond, ltb, length, take, sym, ap, ◌∙◌, arith}
use Rattle.machine.proofs.Enrolled.{enrolls-one, enrolls-two}
use Rattle.machine.specs.Settings.{templates_in}
use Rattle.phases.proofs.Templates.{better-part, gives-better, some-template}
use Rattle.std.proofs.lemmas.List.{length-take-le}
use Rattle.phases.proofs.enrolling.enroll_scans.Goals as goal

pub returns-in-Once : goal.returns-in-Once
returns-in-Once g c = record {
  after = λ some places.
      let m = c.args.memory.now in
      let size = g.S.Memory.T in
      let e = c.args.enrollment in
      let one = c.args.first.now.bytes in
      let two = c.args.second.bytes.now in
      let b = ltb c.args.first.now.quality c.args.second.quality in
      let part = c.better.ensures.value ∙ ap (λ n. take n (cond b two one)) c.T-size.ensures
      ∙ better-part b size one two c.args.second.long in
      let long = ap length (sym part) ∙ c.better.ensures.long ∙ c.T-size.ensures in
      let gives = gives-better c.args.mode (take size one) two c.args.first.now.quality c.args.second.quality
      c.in-Once.is in
      let few = some-template c.args.mode in
      c.enroll_one.ensures.after ∙ rw (part, gives)
      (enrolls-one size (g.S.Memory.room m) (g.S.Memory.held m) e.flag e.id some _ (omega arith) long);
  room_same = c.enroll_one.ensures.room_same;
}

pub returns-in-TwoTemplates-clause-after : goal.returns-in-TwoTemplates-clause-after
returns-in-TwoTemplates-clause-after g c = λ some places.
    let m = c.args.memory.now in
    let size = g.S.Memory.T in
    let e = c.args.enrollment in
    let one = c.args.first.now.bytes in
    let long = length-take-le size one (omega (arith, g.met.S.Memory.sized.1)) in
    let two : templates_in c.args.mode ≡ 2 = rw c.in-TwoTemplates.is in
    c.enroll_two.ensures.after ∙ rw (c.T-size.ensures, c.in-TwoTemplates.is)
    (enrolls-two size (g.S.Memory.room m) (g.S.Memory.held m) e.flag e.id some (take size one) _ (omega arith) long
    c.args.second.long)
