use Rattle.benchline.proofs.Places.{misplaced-there}
use Rattle.benchline.proofs.read_line.Goals as goal

pub returns-in_err-bytes_behind-in-P-clause-there : goal.returns-in_err-bytes_behind-in-P-clause-there
returns-in_err-bytes_behind-in-P-clause-there c at byte h = misplaced-there _ at byte h

pub returns-in_err-bytes_behind-in-F-clause-there : goal.returns-in_err-bytes_behind-in-F-clause-there
returns-in_err-bytes_behind-in-F-clause-there c at byte h = misplaced-there _ at byte h
