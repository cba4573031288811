use Rattle.std.proofs.Common.{◌≡◌, None, ap, sym, subst, ◌∙◌}
use Rattle.std.specs.FinMap as map
use Rattle.capcore.proofs.Common.{State, Write, changes-still, create_tests, first_failing, inode_tests, new_inode_tests, owned_by, pass-both, plain, view_of}
use Rattle.capcore.proofs.Effects.{birth-done, birth-refused, birth-rejection}
use Rattle.capcore.proofs.Rejections.{access-at, inode-passed}
use Rattle.capcore.proofs.world.World.make.Goals as goal

pub returns-in-Some-clause-direct : goal.returns-in-Some-clause-direct
returns-in-Some-clause-direct c = rw c.into_reply.ensures.reply (birth-rejection c.args.self.now c.args.kind c.args.holder.client c.args.holder.ino c.args.name.now c.args.mode c.in-Some.rejection (access-at _ c.args.self.now c.args.holder.client c.args.holder.ino.0 Write c.access_rejection.result c.self.view_is c.access_rejection.ensures ∙ c.in-Some.is))

pub returns-in-Some-new_inode_refusal-clause-direct : goal.returns-in-Some-new_inode_refusal-clause-direct
returns-in-Some-new_inode_refusal-clause-direct c =
    birth-refused c.args.self.now c.args.holder.client c.args.holder.ino c.args.name.now c.args.mode (access-at _ c.args.self.now c.args.holder.client c.args.holder.ino.0 Write c.access_rejection.result c.self.view_is c.access_rejection.ensures ∙ c.in_default.is) c.args.kind c.in-Some-new_inode_refusal.refusal
    (ap (λ s. first_failing (new_inode_tests s.scene.tree c.args.holder.ino.0 c.args.name.now)) (sym c.self.view_is) ∙ sym c.new_inode_refusal.ensures ∙ c.in-Some-new_inode_refusal.is)

pub add-requires : goal.add-requires
add-requires c = record {
  passed = subst (λ (s : State). first_failing (create_tests s.scene.tree c.args.holder.ino.0 c.args.name.now) ≡ None) c.self.view_is
      (pass-both (inode_tests c.self.inside.parts.scene.tree c.args.holder.ino.0) (new_inode_tests c.self.inside.parts.scene.tree c.args.holder.ino.0 c.args.name.now)
      (inode-passed (plain c.self.inside.parts.scene) c.args.holder.client c.args.holder.ino.0 Write
      (sym c.access_rejection.ensures ∙ c.in_default.is))
      (sym c.new_inode_refusal.ensures ∙ c.in_default-new_inode_refusal.is));
}

pub returns-clause-direct : goal.returns-clause-direct
returns-clause-direct c =
    rw (c.in_ok-ino.ensures.ok, c.owned_by-attr.ensures ∙ ap (λ (s : State). owned_by (map.get s.scene.sessions.sessions c.args.holder.client.0) c.args.mode) c.self.view_is)
    (birth-done c.args.self.now c.args.holder.client c.args.holder.ino c.args.name.now c.args.mode (access-at _ c.args.self.now c.args.holder.client c.args.holder.ino.0 Write c.access_rejection.result c.self.view_is c.access_rejection.ensures ∙ c.in_default.is) c.args.kind c.in_ok-ino.ino
    (ap (λ s. first_failing (new_inode_tests s.scene.tree c.args.holder.ino.0 c.args.name.now)) (sym c.self.view_is) ∙ sym c.new_inode_refusal.ensures ∙ c.in_default-new_inode_refusal.is)
    c.in_ok-ino.ensures.ino)

-- ---- what is noted

pub returns-in-Some-clause-changes : goal.returns-in-Some-clause-changes
returns-in-Some-clause-changes c = changes-still c.clear.new.self.items (view_of c.args.self.now) c.clear.ensures.items

pub returns-in-Some-new_inode_refusal-clause-changes : goal.returns-in-Some-new_inode_refusal-clause-changes
returns-in-Some-new_inode_refusal-clause-changes c = changes-still c.clear-in-Some-new_inode_refusal.new.self.items (view_of c.args.self.now) c.clear-in-Some-new_inode_refusal.ensures.items
