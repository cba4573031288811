use Rattle.std.proofs.Common.{◌≡◌, ◌+◌, length}
use Rattle.std.specs.List.{sum_by}
use Rattle.cli.proofs.calling.start_all.Given as goal

abbrev pub invariant-loop-pass : goal.invariant-loop-pass
invariant-loop-pass g l = record {
  many : length l.threads.items + length l.tasks.items ≡ length l.fn.tasks.items;
  events : sum_by (λ h. h.promise.0) l.threads.items + sum_by (λ t. length t.events.items) l.tasks.items ≡ sum_by (λ t. length t.events.items) l.fn.tasks.items;
}

abbrev pub decreases-loop-pass : goal.decreases-loop-pass
decreases-loop-pass g l = length l.tasks.items
