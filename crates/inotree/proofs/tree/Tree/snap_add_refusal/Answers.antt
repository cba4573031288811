use Rattle.inotree.specs.Tests.{inode_tests, new_snapshot_tests}
use Rattle.inotree.proofs.FirstOf.{first-both}
use Rattle.inotree.proofs.tree.Tree.snap_add_refusal.Goals as goal

pub returns : goal.returns
returns c =
    let t = c.args.self.now in
    first-both (inode_tests t c.args.ino.0) (new_snapshot_tests t c.args.ino.0 c.args.name.now) _ _ _ c.or.ensures c.inode_refusal-here.ensures c.new_snapshot_refusal.ensures
