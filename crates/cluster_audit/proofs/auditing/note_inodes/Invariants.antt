use Rattle.cluster_audit.specs.Audited.{SaysOfInode, clients_of}
use Rattle.cluster_audit.proofs.Reports.{IsBegun}
use Rattle.cluster_audit.proofs.auditing.note_inodes.Given as goal

abbrev pub invariant-loop-inode : goal.invariant-loop-inode
invariant-loop-inode l = IsBegun (SaysOfInode l.fs (clients_of l.manner l.clients) l.paths) l.inodes l.inode-index l.notes.found.items l.notes.unknown.items
