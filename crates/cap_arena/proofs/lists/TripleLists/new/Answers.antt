use Rattle.cap_arena.proofs.Values.{no_nodes}
use Rattle.cap_arena.proofs.lists.TripleLists.new.Goals as goal

pub invariant_of-result : goal.invariant_of-result
invariant_of-result g c = no_nodes c.new.result.slots c.no_ends.result c.new-3.result c.new-4.result c.new.ensures.empty c.no_ends.ensures c.new-3.ensures c.new-4.ensures
