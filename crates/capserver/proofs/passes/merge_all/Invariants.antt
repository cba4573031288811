use Rattle.std.proofs.Common.{◌≡◌, ◌+◌, length}
use Rattle.std.specs.List.{sum_by}
use Rattle.capserver.proofs.passes.merge_all.Given as goal

abbrev pub invariant-loop-pass : goal.invariant-loop-pass
invariant-loop-pass g l = record {
  parts : l.rest.parts + length l.passes.items ≡ l.fn.rest.parts + length l.fn.passes.items;
  amount : l.rest.amount + sum_by (λ p. p.calls) l.passes.items ≡ l.fn.rest.amount + sum_by (λ p. p.calls) l.fn.passes.items;
}

abbrev pub decreases-loop-pass : goal.decreases-loop-pass
decreases-loop-pass g l = length l.passes.items
