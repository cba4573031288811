use Rattle.std.proofs.Common.{subst}
use Rattle.inotree.specs.Tree.{IsTree}
use Rattle.inotree.proofs.OneInode.{detach-unlink}
use Rattle.inotree.proofs.tree.Tree.unlink_tested.Goals as goal

pub detach-requires : goal.detach-requires
detach-requires c = record { passed = detach-unlink c.args.self.now c.args.ino.0 (subst IsTree c.self.view_is c.self.invariant.0) c.requires.passed }
