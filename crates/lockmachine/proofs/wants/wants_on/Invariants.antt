use Rattle.std.proofs.Common.{◌≡◌, length}
use Rattle.std.proofs.Common.{map as each}
use Rattle.lockmachine.specs.Wants.{in_all, in_all_with, want_of}
use Rattle.lockmachine.proofs.wants.wants_on.Given as goal

abbrev pub decreases-rows : goal.decreases-rows
decreases-rows l = length l.walk

abbrev pub invariant-rows : goal.invariant-rows
invariant-rows l = in_all_with l.tally (each (want_of l.fs l.tree l.sessions) l.walk) ≡ in_all (each (want_of l.fs l.tree l.sessions) l.initial.walk)
