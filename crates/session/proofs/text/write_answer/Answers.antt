use Rattle.std.proofs.Common.{◌≡◌, ◌+◌, ◌≤◌, length, vec_len, vec_capacity, arith}
use Rattle.std.proofs.lemmas.Result.{on_err_weaker}
use Rattle.engine.specs.Seen.{listed}
use Rattle.machine.specs.Printed.{outcomes_text}
use Rattle.session.proofs.Lengths.{answer-room, len-more}
use Rattle.session.proofs.text.write_answer.Goals as goal

pub returns-clause-room : goal.returns-clause-room
returns-clause-room c =
    let said = outcomes_text (listed c.args.outcomes) in
    let before = c.args.text.now in
    let once = c.write_outcomes.new.text in
    let twice = c.push.new.self in
    let len : vec_len once ≡ vec_len before + length said =
    len-more before once said c.in_ok-write_outcomes.ensures.value in
    let one : vec_len twice ≡ vec_len once + 1 = c.in_ok-push.ensures.len in
    let kept : vec_capacity before ≤ vec_capacity once = c.in_ok-write_outcomes.ensures.kept in
    let kept-again : vec_capacity once ≤ vec_capacity twice = c.in_ok-push.ensures.capacity in
    on_err_weaker c.write_hex.result
    (λ short. answer-room said c.args.written.now (vec_capacity before) (vec_capacity twice) (vec_len before)
    (omega arith) (omega arith))
    c.write_hex.ensures.room
