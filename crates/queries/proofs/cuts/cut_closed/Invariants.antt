use Rattle.std.proofs.Common.{◌≡◌, ◌≤◌, length}
use Rattle.queries.specs.Cuts.{cut_below, is_closed}
use Rattle.queries.proofs.cuts.cut_closed.Given as goal

abbrev pub invariant-loop-place : goal.invariant-loop-place
invariant-loop-place l = record {
  within : l.place ≤ length l.text;
  same : cut_below is_closed l.mark l.text l.place ≡ cut_below is_closed l.mark l.text (length l.text);
}

abbrev pub decreases-loop-place : goal.decreases-loop-place
decreases-loop-place l = l.place
