use Rattle.std.proofs.Common.{◌≡◌, ◌++◌}
use Rattle.policy_analysis.proofs.Listed.{first_odd}
use Rattle.policy_analysis.proofs.oddity.push_oddities.Given as goal

abbrev pub invariant-loop-oddity : goal.invariant-loop-oddity
invariant-loop-oddity l = l.found.items ≡ l.fn.found.items ++ first_odd l.switches l.number l.grant l.oddity-index
