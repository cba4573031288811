use Rattle.inotree.proofs.OneInode.{detach-rmdir}
use Rattle.inotree.proofs.tree.Tree.rmdir_tested.Goals as goal

pub detach-requires : goal.detach-requires
detach-requires c = record { passed = detach-rmdir c.args.self.now c.args.ino.0 c.requires.passed }
