use Rattle.std.proofs.Common.{length}
use Rattle.cap_arena.specs.Lists.{OfClient, keys}
use Rattle.captable.specs.Walks.{keys_from}
use Rattle.captable.specs.Places.{NoneDueBefore}
use Rattle.captable.proofs.places.first_due.Given as goal

abbrev pub invariant-places : goal.invariant-places
invariant-places l = NoneDueBefore l.lists l.fn.client l.place

abbrev pub decreases-places : goal.decreases-places
decreases-places l = length (keys_from (keys l.lists (OfClient l.fn.client)) l.place)
