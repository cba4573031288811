use Rattle.inotree.specs.Tests.{inode_tests, new_inode_tests}
use Rattle.inotree.proofs.FirstOf.{first-both}
use Rattle.inotree.proofs.tree.Tree.create_refusal.Goals as goal

pub returns : goal.returns
returns c =
    let t = c.args.self.now in
    first-both (inode_tests t c.args.dir.0) (new_inode_tests t c.args.dir.0 c.args.name.now) _ _ _ c.or.ensures c.inode_refusal-here.ensures c.new_inode_refusal.ensures
