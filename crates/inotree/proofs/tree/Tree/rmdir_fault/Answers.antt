use Rattle.std.proofs.Common.{◌∷◌, ◌++◌, []}
use Rattle.inotree.specs.Tests.{directory_test, empty_test, inode_tests, root_test}
use Rattle.inotree.proofs.FirstOf.{first-both}
use Rattle.inotree.proofs.tree.Tree.rmdir_fault.Goals as goal

pub returns : goal.returns
returns c =
    let t = c.args.self.now in
    let i = c.args.ino.0 in
    first-both (inode_tests t i ++ root_test t i ∷ []) (directory_test t i ∷ empty_test t i ∷ []) _ _ _ c.or-2.ensures
    (first-both (inode_tests t i) (root_test t i ∷ []) _ _ _ c.or.ensures c.inode_refusal-here.ensures c.root_refusal.ensures) c.empty_refusal.ensures
