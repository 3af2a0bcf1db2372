use Rattle.std.specs.Prelude.{ℕ, cond, List, ◌++◌, codes, ◌==◌}
use Rattle.std.specs.Fmt.{decimal}
use Rattle.packet.specs.declared.form.Form.{Form}
use Rattle.packet.specs.declared.form.Form.TheVariants.{Standard, Network}

-- a form in words: a network packet goes to a terminal, or with the number 0 to all of them
abbrev pub form_text : Form → List ℕ
form_text Standard = codes "standard"
form_text (Network n) = cond (n == 0) (codes "network, broadcast") (codes "network, terminal " ++ decimal n)
