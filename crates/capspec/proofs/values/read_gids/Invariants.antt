use Rattle.std.proofs.Common.{length}
use Rattle.capspec.proofs.Separating.{HasGids}
use Rattle.capspec.proofs.values.read_gids.Given as goal

abbrev pub invariant-loop-gid : goal.invariant-loop-gid
invariant-loop-gid l = HasGids l.text l.rest l.all_fit l.gids

abbrev pub decreases-loop-gid : goal.decreases-loop-gid
decreases-loop-gid l = length l.rest
