use Rattle.std.proofs.Common.{ap, sym, ◌∙◌, refl}
use Rattle.capcore.proofs.Common.{Snapshot, first_failing, inode_tests, old_snapshot_tests, pass-both, plain, without_snapshot}
use Rattle.capcore.proofs.Effects.{removing-rejection, snapshot-stays}
use Rattle.capcore.proofs.Rejections.{access-at, inode-passed}
use Rattle.capcore.proofs.Unaffected.{changed-unseen, changed-whole}
use Rattle.capcore.proofs.world.World.remove_snapshot.Goals as goal

pub returns-in-Some-clause-direct : goal.returns-in-Some-clause-direct
returns-in-Some-clause-direct c = rw c.into_reply.ensures.reply (removing-rejection c.args.self.now c.args.client c.args.ino c.args.name.now c.in-Some.rejection (access-at _ c.args.self.now c.args.client c.args.ino.0 Snapshot c.access_rejection.result c.self.view_is c.access_rejection.ensures ∙ c.in-Some.is))

pub returns-in-Some-old_snapshot_refusal-clause-direct : goal.returns-in-Some-old_snapshot_refusal-clause-direct
returns-in-Some-old_snapshot_refusal-clause-direct c =
    snapshot-stays c.args.self.now c.args.client c.args.ino c.args.name.now (access-at _ c.args.self.now c.args.client c.args.ino.0 Snapshot c.access_rejection.result c.self.view_is c.access_rejection.ensures ∙ c.in_default.is) c.in-Some-old_snapshot_refusal.refusal
    (ap (λ s. first_failing (old_snapshot_tests s.scene.tree c.args.ino.0 c.args.name.now)) (sym c.self.view_is) ∙ sym c.old_snapshot_refusal.ensures ∙ c.in-Some-old_snapshot_refusal.is)

pub snap_remove_tested-requires : goal.snap_remove_tested-requires
snap_remove_tested-requires c = record {
  passed = pass-both (inode_tests c.self.inside.parts.scene.tree c.args.ino.0) (old_snapshot_tests c.self.inside.parts.scene.tree c.args.ino.0 c.args.name.now)
      (inode-passed (plain c.self.inside.parts.scene) c.args.client c.args.ino.0 Snapshot
      (sym c.access_rejection.ensures ∙ c.in_default.is))
      (sym c.old_snapshot_refusal.ensures ∙ c.in_default-old_snapshot_refusal.is);
}

pub invariant_of-self : goal.invariant_of-self
invariant_of-self c = rw c.snap_remove_tested.ensures (changed-whole c.self.inside.parts c.self.invariant (without_snapshot c.args.name.now) c.args.ino.0 (λ n. refl) (λ n. refl))

pub returns-clause-seen : goal.returns-clause-seen
returns-clause-seen c = changed-unseen c.self.inside.parts c.args.self.now (without_snapshot c.args.name.now) c.args.ino.0 c.snap_remove_tested.new.self c.self.view_is (λ n. refl) c.snap_remove_tested.ensures
