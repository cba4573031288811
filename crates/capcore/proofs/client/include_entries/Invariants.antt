use Rattle.std.proofs.Common.{length}
use Rattle.capcore.proofs.Among.{AreIncluded}
use Rattle.capcore.proofs.client.include_entries.Given as goal

abbrev pub decreases-rows : goal.decreases-rows
decreases-rows l = length l.walk

abbrev pub invariant-rows : goal.invariant-rows
invariant-rows l = record {
  included : AreIncluded l.inodes l.initial.walk l.walk;
}
