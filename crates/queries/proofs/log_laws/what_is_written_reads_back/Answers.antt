use Rattle.queries.proofs.WrittenChecks.{head_reads_back, reads_back}
use Rattle.queries.proofs.log_laws.what_is_written_reads_back.Goals as goal

pub returns-clause-head : goal.returns-clause-head
returns-clause-head c = head_reads_back

pub returns-clause-check : goal.returns-clause-check
returns-clause-check c = reads_back
