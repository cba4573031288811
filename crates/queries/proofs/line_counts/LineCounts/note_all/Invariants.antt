use Rattle.std.proofs.Common.{length}
use Rattle.queries.specs.Counts.{counts_of}
use Rattle.queries.proofs.LineCounts.{SoFar}
use Rattle.queries.proofs.line_counts.LineCounts.note_all.Given as goal

abbrev pub invariant-loop-line : goal.invariant-loop-line
invariant-loop-line l = SoFar l.text l.rest (counts_of l.initial.self) (counts_of l.self)

abbrev pub decreases-loop-line : goal.decreases-loop-line
decreases-loop-line l = length l.rest
