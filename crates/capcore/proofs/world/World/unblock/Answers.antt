use Rattle.capcore.proofs.Unaffected.{unblocked-whole}
use Rattle.capcore.proofs.world.World.unblock.Goals as goal

pub invariant_of-self : goal.invariant_of-self
invariant_of-self c = rw c.unblock_tested.ensures (unblocked-whole c.self.inside.parts c.self.invariant c.args.client.0)
