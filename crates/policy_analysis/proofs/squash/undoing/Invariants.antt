use Rattle.std.proofs.Common.{take}
use Rattle.std.specs.Prelude.{All}
use Rattle.policy_analysis.specs.Squashing.{KeepsAgainst}
use Rattle.policy_analysis.proofs.squash.undoing.Given as goal

abbrev pub invariant-loop-other : goal.invariant-loop-other
invariant-loop-other l = All (KeepsAgainst l.grant) (take l.other-index l.grants)
