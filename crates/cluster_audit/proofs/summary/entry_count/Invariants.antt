use Rattle.std.proofs.Common.{◌≡◌, take}
use Rattle.cluster_audit.specs.Summary.{entry_count}
use Rattle.cluster_audit.proofs.summary.entry_count.Given as goal

abbrev pub invariant-loop-inode : goal.invariant-loop-inode
invariant-loop-inode l = l.entries ≡ entry_count (take l.inode-index l.inodes)
