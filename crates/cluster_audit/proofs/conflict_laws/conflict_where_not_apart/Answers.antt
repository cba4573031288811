use Rattle.cluster_audit.proofs.Apart.{listed_exactly}
use Rattle.cluster_audit.proofs.conflict_laws.conflict_where_not_apart.Goals as goal

pub returns : goal.returns
returns c = listed_exactly
