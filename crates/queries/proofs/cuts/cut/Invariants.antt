use Rattle.std.proofs.Common.{◌≡◌, ◌≤◌, length}
use Rattle.queries.specs.Cuts.{cut_below, is_any}
use Rattle.queries.proofs.cuts.cut.Given as goal

abbrev pub invariant-loop-end : goal.invariant-loop-end
invariant-loop-end l = record {
  within : l.end ≤ length l.text;
  same : cut_below is_any l.mark l.text l.end ≡ cut_below is_any l.mark l.text (length l.text);
}

abbrev pub decreases-loop-end : goal.decreases-loop-end
decreases-loop-end l = l.end
