use Rattle.sessiontab.proofs.Sound.{sound-change}
use Rattle.sessiontab.proofs.table.Sessions.mark_tested.Goals as goal

pub invariant_of-self : goal.invariant_of-self
invariant_of-self c = rw c.set_status.ensures (sound-change _ _ _ c.self.invariant _)
