use Rattle.capspec.proofs.OneReading.{reads_no_fault}
use Rattle.capspec.proofs.laws.no_fault_where_it_reads.Goals as goal

pub returns : goal.returns
returns c = reads_no_fault
