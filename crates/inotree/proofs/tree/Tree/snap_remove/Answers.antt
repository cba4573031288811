use Rattle.std.proofs.Common.{sym, ◌∙◌}
use Rattle.inotree.specs.Tests.{inode_tests, old_snapshot_tests}
use Rattle.inotree.proofs.FirstOf.{first-both}
use Rattle.inotree.proofs.tree.Tree.snap_remove.Goals as goal

pub returns-in-Some-clause-refused : goal.returns-in-Some-clause-refused
returns-in-Some-clause-refused c =
    let t = c.args.self.now in
    let i = c.args.ino.0 in
    sym c.in-Some.is ∙ first-both (inode_tests t i) (old_snapshot_tests t i c.args.name.now) _ _ _ c.or.ensures c.inode_refusal-here.ensures c.old_snapshot_refusal.ensures

pub snap_remove_tested-requires : goal.snap_remove_tested-requires
snap_remove_tested-requires c =
    let t = c.args.self.now in
    let i = c.args.ino.0 in
    record { passed = sym (first-both (inode_tests t i) (old_snapshot_tests t i c.args.name.now) _ _ _ c.or.ensures c.inode_refusal-here.ensures c.old_snapshot_refusal.ensures) ∙ c.in_default.is }

pub returns-clause-refused : goal.returns-clause-refused
returns-clause-refused c =
    let t = c.args.self.now in
    let i = c.args.ino.0 in
    sym c.in_default.is ∙ first-both (inode_tests t i) (old_snapshot_tests t i c.args.name.now) _ _ _ c.or.ensures c.inode_refusal-here.ensures c.old_snapshot_refusal.ensures
