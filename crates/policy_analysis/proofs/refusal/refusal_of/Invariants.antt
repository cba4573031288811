use Rattle.std.proofs.Common.{take}
use Rattle.std.specs.Prelude.{All}
use Rattle.policy_analysis.specs.Refusals.{NoneRefuses}
use Rattle.policy_analysis.proofs.refusal.refusal_of.Given as goal

abbrev pub invariant-loop-place : goal.invariant-loop-place
invariant-loop-place l = All (NoneRefuses l.asked l.grants l.grant) (take l.place l.grants)
