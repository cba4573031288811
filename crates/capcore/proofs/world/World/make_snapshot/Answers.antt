use Rattle.std.proofs.Common.{ap, sym, ◌∙◌, refl}
use Rattle.capcore.proofs.Common.{Snapshot, first_failing, inode_tests, new_snapshot_tests, pass-both, plain, with_snapshot}
use Rattle.capcore.proofs.Effects.{making-rejection, snapshot-refused}
use Rattle.capcore.proofs.Rejections.{access-at, inode-passed}
use Rattle.capcore.proofs.Unaffected.{changed-unseen, changed-whole}
use Rattle.capcore.proofs.world.World.make_snapshot.Goals as goal

pub returns-in-Some-clause-direct : goal.returns-in-Some-clause-direct
returns-in-Some-clause-direct c = rw c.into_reply.ensures.reply (making-rejection c.args.self.now c.args.client c.args.ino c.args.name.now c.in-Some.rejection (access-at _ c.args.self.now c.args.client c.args.ino.0 Snapshot c.access_rejection.result c.self.view_is c.access_rejection.ensures ∙ c.in-Some.is))

pub returns-in-Some-new_snapshot_refusal-clause-direct : goal.returns-in-Some-new_snapshot_refusal-clause-direct
returns-in-Some-new_snapshot_refusal-clause-direct c =
    snapshot-refused c.args.self.now c.args.client c.args.ino c.args.name.now (access-at _ c.args.self.now c.args.client c.args.ino.0 Snapshot c.access_rejection.result c.self.view_is c.access_rejection.ensures ∙ c.in_default.is) c.in-Some-new_snapshot_refusal.refusal
    (ap (λ s. first_failing (new_snapshot_tests s.scene.tree c.args.ino.0 c.args.name.now)) (sym c.self.view_is) ∙ sym c.new_snapshot_refusal.ensures ∙ c.in-Some-new_snapshot_refusal.is)

pub snap_add_tested-requires : goal.snap_add_tested-requires
snap_add_tested-requires c = record {
  passed = pass-both (inode_tests c.self.inside.parts.scene.tree c.args.ino.0) (new_snapshot_tests c.self.inside.parts.scene.tree c.args.ino.0 c.args.name.now)
      (inode-passed (plain c.self.inside.parts.scene) c.args.client c.args.ino.0 Snapshot
      (sym c.access_rejection.ensures ∙ c.in_default.is))
      (sym c.new_snapshot_refusal.ensures ∙ c.in_default-new_snapshot_refusal.is);
}

pub invariant_of-self : goal.invariant_of-self
invariant_of-self c = rw c.in_err-snap_add_tested.ensures.err c.self.invariant

pub invariant_of-self-2 : goal.invariant_of-self-2
invariant_of-self-2 c = rw c.in_ok-snap_add_tested.ensures.ok (changed-whole c.self.inside.parts c.self.invariant (with_snapshot c.args.name.now) c.args.ino.0 (λ n. refl) (λ n. refl))

pub returns-clause-seen : goal.returns-clause-seen
returns-clause-seen c = changed-unseen c.self.inside.parts c.args.self.now (with_snapshot c.args.name.now) c.args.ino.0 c.snap_add_tested.new.self c.self.view_is (λ n. refl) c.in_ok-snap_add_tested.ensures.ok
