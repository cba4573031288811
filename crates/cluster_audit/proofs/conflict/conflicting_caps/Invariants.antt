use Rattle.std.proofs.Common.{take}
use Rattle.capbits.specs.Caps.{all_caps}
use Rattle.cluster_audit.proofs.Gathering.{IsGathered}
use Rattle.cluster_audit.proofs.ConflictingCaps.{test}
use Rattle.cluster_audit.proofs.conflict.conflicting_caps.Given as goal

abbrev pub invariant-loop-cap : goal.invariant-loop-cap
invariant-loop-cap l = IsGathered (test l.caps) (take l.cap-index all_caps) l.conflicting_caps
