use Rattle.std.proofs.Common.{[], sym, subst}
use Rattle.machine.specs.State.{State, fresh}
use Rattle.engine.proofs.Reached.{begins as module-begins}
use Rattle.promises.proofs.Calls.{begins}
use Rattle.promises.proofs.Whole.{always-promised}
use Rattle.promises.specs.Calls.{Run}
use Rattle.promises.specs.Promises.{Promised}
use Rattle.engine.proofs.inner.Module.new.Goals as goal

pub returns : goal.returns
returns g c =
    let agree = g.M.Matcher.yes c.args.matcher in
    let room = g.S.Memory.room c.args.memory in
    let P : State → Type 0 = λ v. Run [] v in
    let Q : State → Type 0 = λ v. Promised (fresh agree g.S.Memory.T room c.args.own) [] [] v in
    record {
      made = c.new.ensures;
      begins = subst P (sym c.new.ensures) (begins agree g.S.Memory.T room c.args.own);
      promises = subst Q (sym c.new.ensures) (always-promised agree g.S.Memory.T room c.args.own []);
    }

pub invariant_of-result : goal.invariant_of-result
invariant_of-result g c = record { reached = module-begins _ _ _ _ _ c.new.ensures }
