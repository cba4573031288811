use Rattle.std.proofs.Common.{◌≡◌, map, take}
use Rattle.policy_analysis.specs.Refusals.{names_in}
use Rattle.policy_analysis.proofs.refusal.paths_of.Given as goal

abbrev pub invariant-loop-grant : goal.invariant-loop-grant
invariant-loop-grant l = l.paths.items ≡ map names_in (take l.grant-index l.grants)
