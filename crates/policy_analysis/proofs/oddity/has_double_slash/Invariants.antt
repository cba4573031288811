use Rattle.std.proofs.Common.{◌≡◌, ◌-◌, drop}
use Rattle.capspec.specs.Paths.{has_double_slash}
use Rattle.policy_analysis.proofs.oddity.has_double_slash.Given as goal

abbrev pub invariant-loop-place : goal.invariant-loop-place
invariant-loop-place l = has_double_slash (drop (l.place - 1) l.text) ≡ has_double_slash l.text
