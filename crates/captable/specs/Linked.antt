-- How the parts of a table fit together.
use Rattle.std.specs.Prelude.{◌≡◌, ◌<◌, ◌≤◌, ℕ, List, map, filter, length}
use Rattle.std.specs.List.{AllByRecursion}
use Rattle.capbits.specs.declared.ids.ClientId.{ClientId}
use Rattle.capbits.specs.declared.ids.Ino.{Ino}
use Rattle.cap_arena.specs.declared.nodes.Node.{Node}
use Rattle.cap_arena.specs.Lists.{IsLists, Lists, OfClient, OfInode, OfRecall, keys}
use Rattle.captable.specs.declared.entry.Slot.{Slot}
use Rattle.captable.specs.Table.{IsTable}
use Rattle.captable.specs.Calls.{entries_on, is_of_client}
use Rattle.captable.specs.Nodes.{has_number, nodes_in, row_of, table_of}
use Rattle.captable.specs.Places.{AreInOrder, number_at}

-- each node's number is below `end`
abbrev pub AreBelow : ℕ → List (Node Slot) → Type 0
AreBelow end nodes = AllByRecursion (λ node. node.value.number < end) nodes

-- the nodes stand in their lists, and for a table; they have different numbers, all below that of the next one; the list of
-- an inode, and that of a client, are in the order of making; the numbers of a client's rise
pub record IsLinked (lists : Lists Slot) (made : ℕ) : Type 0 where
  pub sound : IsLists lists
  pub table : IsTable (table_of lists made)
  pub below : AreBelow made (nodes_in lists OfRecall)
  pub once : (number : ℕ) → length (filter (has_number number) (nodes_in lists OfRecall)) ≤ 1
  pub inodes : (ino : Ino) → map row_of (nodes_in lists (OfInode ino)) ≡ entries_on (table_of lists made) ino
  pub clients : (client : ClientId) → map row_of (nodes_in lists (OfClient client)) ≡ filter (is_of_client client) (table_of lists made).rows
  pub ordered : (client : ClientId) → AreInOrder (number_at lists) (keys lists (OfClient client))
