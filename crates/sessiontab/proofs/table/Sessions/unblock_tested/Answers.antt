use Rattle.sessiontab.proofs.Sound.{sound-unblock}
use Rattle.sessiontab.proofs.table.Sessions.unblock_tested.Goals as goal

pub invariant_of-self : goal.invariant_of-self
invariant_of-self c = rw c.remove.ensures.out (sound-unblock _ _ _ c.self.invariant)
