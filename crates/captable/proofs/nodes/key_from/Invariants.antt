use Rattle.std.proofs.Common.{length}
use Rattle.cap_arena.specs.Lists.{OfInode, keys}
use Rattle.captable.specs.Walks.{keys_from}
use Rattle.captable.proofs.Keyed.{NoneBefore}
use Rattle.captable.proofs.nodes.key_from.Given as goal

abbrev pub invariant-nodes : goal.invariant-nodes
invariant-nodes l = NoneBefore l.lists l.fn.holder l.fn.from l.place

abbrev pub decreases-nodes : goal.decreases-nodes
decreases-nodes l = length (keys_from (keys l.lists (OfInode l.fn.holder.ino)) l.place)
