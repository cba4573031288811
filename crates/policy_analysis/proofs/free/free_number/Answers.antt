use Rattle.std.proofs.Common.{arith}
use Rattle.policy_analysis.proofs.Counting.{next_is_free}
use Rattle.policy_analysis.proofs.free.free_number.Goals as goal

pub returns-clause-free : goal.returns-clause-free
returns-clause-free c = next_is_free c.args.numbers.now (λ k above less. c.loop-number.invariant.before k above (omega arith))
