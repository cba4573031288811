use Rattle.std.proofs.Common.{◌≡◌, ◌++◌, map}
use Rattle.std.specs.List.{flat_map}
use Rattle.queries.specs.Counts.{counted_in, counts_of}
use Rattle.queries.proofs.LineCounts.{count_of}
use Rattle.queries.proofs.line_counts.LineCounts.print.Given as goal

abbrev pub invariant-loop-line : goal.invariant-loop-line
invariant-loop-line l = l.text.items ++ flat_map (counted_in l.shape) (map count_of l.line-iterator) ≡ l.initial.text.items ++ flat_map (counted_in l.shape) (counts_of l.self)
