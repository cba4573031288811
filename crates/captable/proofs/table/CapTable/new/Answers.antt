use Rattle.std.proofs.Common.{ap}
use Rattle.cap_arena.specs.Lists.{Lists}
use Rattle.captable.specs.declared.entry.Slot.{Slot}
use Rattle.captable.specs.Nodes.{table_of}
use Rattle.captable.specs.Polls.{counts_of, places_of}
use Rattle.captable.proofs.Counting.{AreCounted-empty}
use Rattle.captable.proofs.Empty.{NoneDueBeforeAny-empty, IsLinked-empty}
use Rattle.captable.proofs.Placed.{ArePlaced-empty}
use Rattle.captable.proofs.Polled.{part-none}
use Rattle.captable.proofs.table.CapTable.new.Goals as goal

pub invariant_of-result : goal.invariant_of-result
invariant_of-result c = (
  IsLinked-empty c.in_ok-lists.lists c.in_ok-lists.ensures,
  NoneDueBeforeAny-empty c.in_ok-lists.lists (places_of c.new-polls.result) (part-none (λ poll. poll.place) c.new-polls.result c.new-polls.ensures),
  ArePlaced-empty c.in_ok-lists.lists (places_of c.new-polls.result) c.in_ok-lists.ensures (part-none (λ poll. poll.place) c.new-polls.result c.new-polls.ensures),
  AreCounted-empty (table_of c.in_ok-lists.lists 0).rows (counts_of c.new-polls.result) (ap (λ (t : Lists Slot). (table_of t 0).rows) c.in_ok-lists.ensures)
      (part-none (λ poll. poll.due) c.new-polls.result c.new-polls.ensures),
)
