use Rattle.std.proofs.Common.{◌∷◌, ◌++◌, [], sym, ◌∙◌}
use Rattle.inotree.specs.Tests.{file_test, inode_tests, root_test}
use Rattle.inotree.proofs.FirstOf.{first-both}
use Rattle.inotree.proofs.tree.Tree.unlink.Goals as goal

pub returns-in-Some-clause-refused : goal.returns-in-Some-clause-refused
returns-in-Some-clause-refused c =
    let t = c.args.self.now in
    let i = c.args.ino.0 in
    let whole = first-both (inode_tests t i ++ root_test t i ∷ []) (file_test t i ∷ []) _ _ _ c.or-2.ensures
    (first-both (inode_tests t i) (root_test t i ∷ []) _ _ _ c.or.ensures c.inode_refusal-here.ensures c.root_refusal.ensures) c.file_refusal.ensures in
    sym c.in-Some.is ∙ whole

pub unlink_tested-requires : goal.unlink_tested-requires
unlink_tested-requires c =
    let t = c.args.self.now in
    let i = c.args.ino.0 in
    let whole = first-both (inode_tests t i ++ root_test t i ∷ []) (file_test t i ∷ []) _ _ _ c.or-2.ensures
    (first-both (inode_tests t i) (root_test t i ∷ []) _ _ _ c.or.ensures c.inode_refusal-here.ensures c.root_refusal.ensures) c.file_refusal.ensures in
    record { passed = sym whole ∙ c.in_default.is }

pub returns-clause-refused : goal.returns-clause-refused
returns-clause-refused c =
    let t = c.args.self.now in
    let i = c.args.ino.0 in
    let whole = first-both (inode_tests t i ++ root_test t i ∷ []) (file_test t i ∷ []) _ _ _ c.or-2.ensures
    (first-both (inode_tests t i) (root_test t i ∷ []) _ _ _ c.or.ensures c.inode_refusal-here.ensures c.root_refusal.ensures) c.file_refusal.ensures in
    sym c.in_default.is ∙ whole
