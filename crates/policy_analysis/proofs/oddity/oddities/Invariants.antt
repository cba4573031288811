use Rattle.std.proofs.Common.{◌≡◌, ◌+◌, ◌++◌, drop}
use Rattle.policy_analysis.specs.Oddities.{oddities, oddities_from}
use Rattle.policy_analysis.proofs.oddity.oddities.Given as goal

abbrev pub invariant-loop-place : goal.invariant-loop-place
invariant-loop-place l = l.found.items ++ oddities_from l.switches (l.place + 1) (drop l.place l.grants) ≡ oddities l.switches l.grants
