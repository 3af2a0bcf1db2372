use Rattle.std.proofs.Common.{[], ◌∷◌, get_or, sym, refl, ap, ◌∙◌, arith, rules}
use Rattle.packet.specs.Heads.{fields_at}
use Rattle.packet.specs.Numbers.{bytes16}
use Rattle.packet.specs.declared.form.Form.TheVariants.{Network}
use Rattle.packet.proofs.Heads.{back, failed, passed}
use Rattle.packet.proofs.head.network_head.Goals as goal

pub returns-in_err-no_flaw-clause-value : goal.returns-in_err-no_flaw-clause-value
returns-in_err-no_flaw-clause-value c = search (rules, failed)

pub returns-clause-value : goal.returns-clause-value
returns-clause-value c =
    let xs = c.args.frame.now in
    passed 0x41 15 _ xs c.of.result _ (omega arith) c.checksum.ensures c.in_ok-no_flaw.ensures
    (c.of.ensures.value ∙ ap (λ t. fields_at (Network t) 3 xs) c.number16.ensures.value)

pub returns-clause-back : goal.returns-clause-back
returns-clause-back c =
    let xs = c.args.frame.now in
    back 0x41 13 _ xs (get_or xs 0 0 ∷ get_or xs 1 0 ∷ get_or xs 2 0 ∷ []) _ _ c.of.result (omega arith)
    c.checksum.ensures c.in_ok-no_flaw.ensures
    c.of.ensures.value c.of.ensures.back
    (λ e. ap (λ b. b ∷ bytes16 c.number16.result) (sym e) ∙ ap (λ l. get_or xs 0 0 ∷ l) c.number16.ensures.back)
    refl
