use Rattle.std.proofs.Common.{◌≡◌, length}
use Rattle.policy_analysis.specs.Scanning.{behind_quote}
use Rattle.policy_analysis.proofs.bytes.behind_quote.Given as goal

abbrev pub invariant-loop-rest : goal.invariant-loop-rest
invariant-loop-rest l = behind_quote l.quote l.rest ≡ behind_quote l.quote l.text

abbrev pub decreases-loop-rest : goal.decreases-loop-rest
decreases-loop-rest l = length l.rest
