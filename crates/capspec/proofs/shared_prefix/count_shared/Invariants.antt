use Rattle.std.proofs.Common.{length, ◌-◌}
use Rattle.capspec.specs.SharedPrefix.{ShareFirst}
use Rattle.capspec.proofs.shared_prefix.count_shared.Given as goal

abbrev pub invariant-loop-shared : goal.invariant-loop-shared
invariant-loop-shared l = ShareFirst l.one l.other l.shared

abbrev pub decreases-loop-shared : goal.decreases-loop-shared
decreases-loop-shared l = length l.one - l.shared
