use Rattle.promises.proofs.Sent.{proper-reads, said-proper}
use Rattle.promises.proofs.said_reads.Goals as goal

pub returns : goal.returns
returns c = record { proper = said-proper; reads = proper-reads }
