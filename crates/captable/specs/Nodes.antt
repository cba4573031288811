-- The nodes in which the entries are kept, and the table that they stand for.
use Rattle.std.specs.Prelude.{◌≡◌, ℕ, Bool, false, Option, Some, None, List, [], ◌∷◌, ◌++◌, map, filter, nat_eq, zero, suc, if◌then◌else◌}
use Rattle.std.specs.Option.{option_map, option_map_or}
use Rattle.capbits.specs.declared.ids.ClientId.{ClientId}
use Rattle.capbits.specs.declared.ids.Ino.{Ino}
use Rattle.cap_arena.specs.declared.nodes.Node.{Node}
use Rattle.cap_arena.specs.Lists.{ListName, Lists, OfClient, OfInode, OfRecall, keys, node_at}
use Rattle.captable.specs.declared.entry.Holder.{Holder}
use Rattle.captable.specs.declared.entry.Entry.{Entry}
use Rattle.captable.specs.declared.entry.EntryRow.{EntryRow}
use Rattle.captable.specs.declared.entry.KeptEntry.{KeptEntry}
use Rattle.captable.specs.declared.entry.ClientView.{ClientView}
use Rattle.captable.specs.declared.entry.Slot.{Slot}
use Rattle.captable.specs.Table.{Table, entry_at, holder, same}
use Rattle.captable.specs.Calls.{entries_on, is_of_client}
use Rattle.captable.specs.Kept.{KeptRow, KeptTable}

-- ---- one node

abbrev pub holder_of : Node Slot → Holder
holder_of node = holder node.client node.ino

abbrev pub row_of : Node Slot → EntryRow
row_of node = record { holder = holder_of node; entry = node.value.entry }

abbrev pub node_with_entry : Entry → Node Slot → Node Slot
node_with_entry entry node = record node { value = record node.value { entry = entry } }

-- what is kept beside its entry
abbrev pub kept_row_of : Node Slot → KeptRow
kept_row_of node = record { holder = holder_of node; sets = node.value.sets }

-- both
abbrev pub kept_entry_of : Node Slot → KeptEntry
kept_entry_of node = record { row = row_of node; sets = node.value.sets }

abbrev pub node_with_sets : ClientView → Node Slot → Node Slot
node_with_sets sets node = record node { value = record node.value { sets = sets } }

-- whether so many entries were made before it
abbrev pub has_number : ℕ → Node Slot → Bool
has_number number node = nat_eq node.value.number number

-- ---- the nodes of a list

abbrev pub with_first : Option (Node Slot) → List (Node Slot) → List (Node Slot)
with_first None nodes = nodes
with_first (Some node) nodes = node ∷ nodes

-- the nodes of some keys, in their order
abbrev pub nodes_at : (ℕ → Option (Node Slot)) → List ℕ → List (Node Slot)
nodes_at at [] = []
nodes_at at (key ∷ keys) = with_first (at key) (nodes_at at keys)

-- the nodes of a list, from its first one on
abbrev pub nodes_in : Lists Slot → ListName → List (Node Slot)
nodes_in lists name = nodes_at (node_at lists) (keys lists name)

-- the key has the holder's node
abbrev pub IsKeyOf : Lists Slot → Holder → ℕ → Type 0
IsKeyOf lists k key = option_map holder_of (node_at lists key) ≡ Some k

-- whether the key has the holder's node
abbrev pub is_key_of : Lists Slot → Holder → ℕ → Bool
is_key_of lists k key = option_map_or (λ node. same k (holder_of node)) (node_at lists key) false

-- ---- the table that nodes stand for

-- the nodes whose numbers are below `end`, those of each number after those of each lower one
abbrev pub by_number : ℕ → List (Node Slot) → List (Node Slot)
by_number zero nodes = []
by_number (suc number) nodes = by_number number nodes ++ filter (has_number number) nodes

-- the table of nodes in the order of recall
abbrev pub table_by : List (Node Slot) → ℕ → Table
table_by nodes made = record { rows = map row_of (by_number made nodes); recall = map holder_of nodes; made = made }

abbrev pub table_of : Lists Slot → ℕ → Table
table_of lists made = table_by (nodes_in lists OfRecall) made

-- what is kept beside the entries, in the order of making
abbrev pub kept_by : List (Node Slot) → ℕ → List KeptRow
kept_by nodes made = map kept_row_of (by_number made nodes)

abbrev pub kept_of : Lists Slot → ℕ → List KeptRow
kept_of lists made = kept_by (nodes_in lists OfRecall) made

-- both
abbrev pub both_of : Lists Slot → ℕ → KeptTable
both_of lists made = record { entries = table_of lists made; kept = kept_of lists made }

-- ---- a change of one node

-- the node has this entry, and nothing else changes
pub record SetsEntry (old new : Lists Slot) (key : ℕ) (entry : Entry) : Type 0 where
  pub nodes : (k : ℕ) → node_at new k ≡ (if nat_eq k key then option_map (node_with_entry entry) (node_at old k) else node_at old k)
  pub lists : (name : ListName) → keys new name ≡ keys old name

-- beside its entry stand these sets, and nothing else changes
pub record KeepsSets (old new : Lists Slot) (key : ℕ) (sets : ClientView) : Type 0 where
  pub nodes : (k : ℕ) → node_at new k ≡ (if nat_eq k key then option_map (node_with_sets sets) (node_at old k) else node_at old k)
  pub lists : (name : ListName) → keys new name ≡ keys old name

-- ---- the lists that a table lends

-- the lists of nodes are those of the table's entries: the order of recall, the entries on each inode and those of each
-- client, and each node has the entry of its holder
pub record AreLists (table : Table) (lists : Lists Slot) : Type 0 where
  pub recall : map holder_of (nodes_in lists OfRecall) ≡ table.recall
  pub inodes : (ino : Ino) → map row_of (nodes_in lists (OfInode ino)) ≡ entries_on table ino
  pub clients : (client : ClientId) → map row_of (nodes_in lists (OfClient client)) ≡ filter (is_of_client client) table.rows
  pub nodes : (key : ℕ) (node : Node Slot) → node_at lists key ≡ Some node → entry_at table (holder_of node) ≡ Some node.value.entry
