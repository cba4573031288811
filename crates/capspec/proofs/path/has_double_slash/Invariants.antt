use Rattle.std.proofs.Common.{◌≡◌, ◌-◌, ◌||◌, drop}
use Rattle.capspec.specs.Paths.{has_double_slash}
use Rattle.capspec.proofs.path.has_double_slash.Given as goal

abbrev pub invariant-loop-place : goal.invariant-loop-place
invariant-loop-place l = (l.is_found || has_double_slash (drop (l.place - 1) l.text)) ≡ has_double_slash l.text
