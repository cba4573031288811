use Rattle.std.proofs.Common.{◌≡◌, take}
use Rattle.std.specs.List.{flat_map}
use Rattle.cluster_audit.specs.Audited.{says_of_prior}
use Rattle.cluster_audit.proofs.unlinked.unlinked_lines.Given as goal

abbrev pub invariant-loop-inode : goal.invariant-loop-inode
invariant-loop-inode l = l.text.items ≡ flat_map (says_of_prior l.shape l.paths) (take l.inode-index l.inodes)
