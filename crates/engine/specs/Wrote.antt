-- What is written of some outcomes.
use Rattle.std.specs.Prelude.{◌≡◌, ℕ, List, ◌++◌, length, take, drop}
use Rattle.machine.specs.Answers.{Said, bytes_of}
use Rattle.packet.specs.Trips.{ReadAs}
use Rattle.packet.specs.declared.form.Form.{Form}
use Rattle.packet.specs.declared.response.Outcome.{Outcome}
use Rattle.promises.specs.Sent.{ProperSaid, sent_of}
use Rattle.std.specs.List.{AllByRecursion}

abbrev pub said : Form → Outcome → List ℕ → Said
said to o bs = record { to = to; outcome = o; «data» = bs }

-- their bytes stand at the front of the answer buffer, those behind stay; they read back as what is sent of the
-- outcomes
pub record Wrote (own : ℕ) (ys : List Said) (before after : List ℕ) (n : ℕ) : Type 0 where
  pub count : n ≡ length (bytes_of own ys)
  pub bytes : after ≡ bytes_of own ys ++ drop (length (bytes_of own ys)) before
  pub reads : AllByRecursion ProperSaid ys → ReadAs (take n after) (sent_of own ys)
