use Rattle.queries.proofs.Looked.{IsSoFar}
use Rattle.queries.proofs.linting.lines_of.Given as goal

abbrev pub invariant-loop-place : goal.invariant-loop-place
invariant-loop-place l = IsSoFar l.shape l.findings l.unread l.place l.lines.items
