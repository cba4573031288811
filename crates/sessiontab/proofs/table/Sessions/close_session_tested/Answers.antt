use Rattle.sessiontab.proofs.Sound.{sound-remove}
use Rattle.sessiontab.proofs.table.Sessions.close_session_tested.Goals as goal

pub invariant_of-self : goal.invariant_of-self
invariant_of-self c = rw c.remove.ensures.ended (sound-remove _ _ _ c.self.invariant)
