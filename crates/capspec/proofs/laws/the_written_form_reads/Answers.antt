use Rattle.capspec.proofs.Written.{written_reads}
use Rattle.capspec.proofs.laws.the_written_form_reads.Goals as goal

pub returns : goal.returns
returns c = written_reads
