use Rattle.std.proofs.Common.{◌≤◌, length}
use Rattle.cap_arena.specs.Lists.{OfRecall, keys}
use Rattle.captable.specs.Walks.{keys_from}
use Rattle.captable.proofs.Recalling.{AreFirst}
use Rattle.captable.proofs.nodes.first_holders.Given as goal

abbrev pub invariant-named : goal.invariant-named
invariant-named l = record { first : AreFirst l.lists l.named.items l.next; few : length l.named.items ≤ l.n }

abbrev pub decreases-named : goal.decreases-named
decreases-named l = length (keys_from (keys l.lists OfRecall) l.next)
