use Rattle.std.proofs.Common.{◌≡◌, ◌≤◌, ◌+◌}
use Rattle.std.specs.List.{AllWithin}
use Rattle.std.specs.FinSet as set
use Rattle.step_acts.proofs.Walked.{IsAdded}
use Rattle.step_acts.specs.AffectedInodes.{Widens}
use Rattle.capcore.proofs.held_below.add_held.Given as goal

abbrev pub invariant-loop-ino : goal.invariant-loop-ino
invariant-loop-ino l = record {
  widens : Widens l.fn.affected l.affected;
  items : l.changes.items ≡ l.fn.changes.items;
  places : l.fn.changes.room + set.len l.affected ≤ l.changes.room + set.len l.fn.affected;
  room : l.fn.changes.room ≤ l.changes.room;
  covers : AllWithin (IsAdded l.table.entries.rows l.affected) l.inos 0 l.ino-index;
}
