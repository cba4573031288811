use Rattle.sessiontab.proofs.Sound.{sound-empty}
use Rattle.sessiontab.proofs.table.Sessions.new.Goals as goal

pub invariant_of-result : goal.invariant_of-result
invariant_of-result c = rw (c.new.ensures, c.new-2.ensures) sound-empty
