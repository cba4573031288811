use Rattle.queries.proofs.Looked.{IsRefusedSoFar}
use Rattle.queries.proofs.linting.print_refusals.Given as goal

abbrev pub invariant-loop-place : goal.invariant-loop-place
invariant-loop-place l = IsRefusedSoFar l.shape l.fn.lines.items l.found l.place l.lines.items
