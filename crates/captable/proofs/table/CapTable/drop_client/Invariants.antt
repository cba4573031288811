use Rattle.std.proofs.Common.{◌≡◌, filter, length}
use Rattle.captable.specs.Calls.{is_of_client}
use Rattle.captable.specs.Kept.{with_no_client}
use Rattle.captable.proofs.table.CapTable.drop_client.Given as goal

abbrev pub invariant-entries : goal.invariant-entries
invariant-entries l = with_no_client l.self l.client ≡ with_no_client l.fn.self l.client

abbrev pub decreases-entries : goal.decreases-entries
decreases-entries l = length (filter (is_of_client l.client) l.self.entries.rows)
