use Rattle.std.proofs.Common.{sym, ◌∙◌}
use Rattle.inotree.specs.Tests.{inode_tests, setting_tests}
use Rattle.inotree.proofs.FirstOf.{first-both}
use Rattle.inotree.proofs.tree.Tree.set.Goals as goal

pub returns-in-Some-clause-refused : goal.returns-in-Some-clause-refused
returns-in-Some-clause-refused c =
    let t = c.args.self.now in
    let i = c.args.ino.0 in
    sym c.in-Some.is ∙ first-both (inode_tests t i) (setting_tests t i c.args.setting) _ _ _ c.or.ensures c.inode_refusal-here.ensures c.setting_refusal.ensures

pub set_tested-requires : goal.set_tested-requires
set_tested-requires c =
    let t = c.args.self.now in
    let i = c.args.ino.0 in
    record { passed = sym (first-both (inode_tests t i) (setting_tests t i c.args.setting) _ _ _ c.or.ensures c.inode_refusal-here.ensures c.setting_refusal.ensures) ∙ c.in_default.is }

pub returns-clause-refused : goal.returns-clause-refused
returns-clause-refused c =
    let t = c.args.self.now in
    let i = c.args.ino.0 in
    sym c.in_default.is ∙ first-both (inode_tests t i) (setting_tests t i c.args.setting) _ _ _ c.or.ensures c.inode_refusal-here.ensures c.setting_refusal.ensures
