use Rattle.std.proofs.Common.{◌≡◌, ◌+◌, ◌++◌, length, map, reverse}
use Rattle.std.specs.List.{sum_by}
use Rattle.cli.proofs.calling.tasks_of.Given as goal

abbrev pub invariant-loop-job : goal.invariant-loop-job
invariant-loop-job g l = record {
  many : length l.passes.items ≡ length l.jobs.items;
  new : sum_by (λ p. p.calls) l.passes.items ≡ 0;
  made : length l.tasks.items + length l.jobs.items ≡ length l.fn.jobs.items;
  count : sum_by (λ t. length t.events.items) l.tasks.items + sum_by (λ j. length j.events.items) l.jobs.items ≡ sum_by (λ j. length j.events.items) l.fn.jobs.items;
  passes : map (λ t. t.pass) l.tasks.items ++ reverse l.passes.items ≡ reverse l.fn.passes.items;
  events : map (λ t. t.events.items) l.tasks.items ++ reverse (map (λ j. j.events.items) l.jobs.items) ≡ reverse (map (λ j. j.events.items) l.fn.jobs.items);
}

abbrev pub decreases-loop-job : goal.decreases-loop-job
decreases-loop-job g l = length l.jobs.items
