use Rattle.std.proofs.Common.{◌≡◌, ◌≤◌, ◌+◌, length}
use Rattle.std.specs.Prelude.{IsTrue}
use Rattle.std.specs.List.{sum_by}
use Rattle.cli.proofs.calling.join_all.Given as goal

abbrev pub invariant-loop-thread : goal.invariant-loop-thread
invariant-loop-thread g l = record {
  ends : (goal.iterator-loop-thread g).can_next l.thread-iterator × (goal.iterator-loop-thread g).is_finite l.thread-iterator;
  many : length l.passes.items + length l.thread-iterator.rest.items ≡ length l.fn.started.threads.items;
  most : sum_by (λ p. p.calls) l.passes.items + sum_by (λ h. h.promise.0) l.thread-iterator.rest.items ≤ sum_by (λ h. h.promise.0) l.fn.started.threads.items;
  all : IsTrue l.answered → sum_by (λ p. p.calls) l.passes.items + sum_by (λ h. h.promise.0) l.thread-iterator.rest.items ≡ sum_by (λ h. h.promise.0) l.fn.started.threads.items;
}
