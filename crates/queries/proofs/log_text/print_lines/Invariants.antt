use Rattle.std.proofs.Common.{length}
use Rattle.queries.specs.Reported.{scope_of, state_of}
use Rattle.queries.proofs.LogLines.{SoFar}
use Rattle.queries.proofs.log_text.print_lines.Given as goal

abbrev pub invariant-loop-line : goal.invariant-loop-line
invariant-loop-line l = SoFar (scope_of l.fn.scope) l.text l.rest l.initial.reported.items l.reported.items (state_of l.initial.state) (state_of l.state)

abbrev pub decreases-loop-line : goal.decreases-loop-line
decreases-loop-line l = length l.rest
