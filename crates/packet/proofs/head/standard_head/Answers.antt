use Rattle.std.proofs.Common.{[], ◌∷◌, get_or, sym, refl, ap, arith, rules}
use Rattle.packet.specs.declared.form.Form.TheVariants.{Standard}
use Rattle.packet.proofs.Heads.{back, failed, passed}
use Rattle.packet.proofs.head.standard_head.Goals as goal

pub returns-in_err-no_flaw-clause-value : goal.returns-in_err-no_flaw-clause-value
returns-in_err-no_flaw-clause-value c = search (rules, failed)

pub returns-clause-value : goal.returns-clause-value
returns-clause-value c =
    passed 0x40 13 _ c.args.frame.now c.of.result _ (omega arith) c.checksum.ensures c.in_ok-no_flaw.ensures c.of.ensures.value

pub returns-clause-back : goal.returns-clause-back
returns-clause-back c =
    let xs = c.args.frame.now in
    back 0x40 11 _ xs (get_or xs 0 0 ∷ []) _ Standard c.of.result (omega arith) c.checksum.ensures c.in_ok-no_flaw.ensures
    c.of.ensures.value c.of.ensures.back (λ e. ap (λ b. b ∷ []) (sym e)) refl
