use Rattle.cluster_audit.specs.Audited.{SaysOfPairs}
use Rattle.cluster_audit.proofs.Giving.{IsGiven}
use Rattle.cluster_audit.proofs.pairs.conflict_lines.Given as goal

abbrev pub invariant-loop-inode : goal.invariant-loop-inode
invariant-loop-inode l = IsGiven (SaysOfPairs l.manner l.clients.sessions l.paths) l.inodes l.inode-index l.text.items
