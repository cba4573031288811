use Rattle.std.proofs.Common.{◌≡◌, ◌+◌, length}
use Rattle.cli.proofs.calling.call_events.Given as goal

abbrev pub invariant-loop-event : goal.invariant-loop-event
invariant-loop-event g l = record {
  ends : (goal.iterator-loop-event g).can_next l.event-iterator × (goal.iterator-loop-event g).is_finite l.event-iterator;
  calls : l.pass.calls + length l.event-iterator.rest.items ≡ l.fn.pass.calls + length l.fn.events.items;
}
