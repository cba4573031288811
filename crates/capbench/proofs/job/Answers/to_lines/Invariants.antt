use Rattle.std.proofs.Common.{length}
use Rattle.capbench.proofs.job.Answers.to_lines.Given as goal

abbrev pub decreases-loop-line : goal.decreases-loop-line
decreases-loop-line l = length l.rest
