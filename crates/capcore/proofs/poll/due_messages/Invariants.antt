use Rattle.std.proofs.Common.{◌≡◌, ◌≤◌, true, Contains, filter, length}
use Rattle.capcore.proofs.CommonPieces.{AreKnown, EntryRow, Scene, end_messages, is_due}
use Rattle.capcore.proofs.Polling.{IsListed}
use Rattle.capcore.proofs.poll.due_messages.Given as goal

abbrev pub decreases-rows : goal.decreases-rows
decreases-rows l = length l.walk

abbrev pub invariant-rows : goal.invariant-rows
invariant-rows l = record {
  left : l.left ≡ length (filter is_due l.walk);
  few : length l.due ≤ l.max;
  among : (row : EntryRow) → Contains l.walk row → is_due row ≡ true → Contains l.scene.table.entries.rows row;
  listed : (s : Scene) → s.tree ≡ l.scene.tree → s.table ≡ l.scene.table.entries → AreKnown l.scene.table.kept s → IsListed l.max s (end_messages l.fn.client l.ended) l.initial.walk l.due l.walk;
}
