use Rattle.cap_arena.proofs.Counts.{length-recall}
use Rattle.cap_arena.proofs.laws.the_order_of_recall_has_each_node.Goals as goal

pub returns : goal.returns
returns g c = length-recall
