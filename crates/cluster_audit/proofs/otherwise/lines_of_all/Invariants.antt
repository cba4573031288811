use Rattle.cluster_audit.specs.Audited.{clients_of}
use Rattle.cluster_audit.specs.Otherwise.{TellsOfInode}
use Rattle.cluster_audit.proofs.Giving.{IsGiven}
use Rattle.cluster_audit.proofs.otherwise.lines_of_all.Given as goal

abbrev pub invariant-loop-inode : goal.invariant-loop-inode
invariant-loop-inode l = IsGiven (TellsOfInode l.fs (clients_of l.manner l.clients) l.paths) l.inodes l.inode-index l.lines.items
