use Rattle.std.proofs.Common.{length}
use Rattle.osd_caps.proofs.Gathered.{Gathers}
use Rattle.osd_caps.proofs.reading.read_osd_caps.Given as goal

abbrev pub invariant-loop-found : goal.invariant-loop-found
invariant-loop-found l = Gathers l.text l.rest l.grants.items

abbrev pub decreases-loop-found : goal.decreases-loop-found
decreases-loop-found l = length l.rest
