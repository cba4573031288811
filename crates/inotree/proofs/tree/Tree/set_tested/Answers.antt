use Rattle.std.proofs.Common.{refl}
use Rattle.inotree.specs.Inodes.{with_setting}
use Rattle.inotree.proofs.Changes.{consistent-any, consistent_at, setting_kind, setting_site}
use Rattle.inotree.proofs.Inner.{setting_good}
use Rattle.inotree.proofs.tree.Tree.set_tested.Goals as goal

pub invariant_of-self : goal.invariant_of-self
invariant_of-self c =
    consistent_at c.self.inside.heights _ _ c.self.inside.last _ _ c.set.ensures refl
    (consistent-any c.self.inside.heights c.self.inside.inodes c.self.inside.last c.args.ino.0 (with_setting c.args.setting) c.self.inside.names c.self.invariant.0 c.self.invariant.1 (setting_kind c.args.setting) (setting_site c.args.setting) (setting_good c.args.setting))
