-- What an entry becomes at the end of a step, by the locks of its inode alone.
pub use Rattle.capstep.specs.Finish.{issuable_under}
pub use Rattle.lockmachine.specs.Under.{pending_under}
use Rattle.std.specs.Prelude.{Bool, List, Option, ℕ}
use Rattle.std.specs.Prelude.{map as each}
use Rattle.std.specs.FinMap as map
use Rattle.std.specs.FinSet as set
use Rattle.capbits.specs.Caps.{Caps}
use Rattle.capbits.specs.Sets.{meet}
use Rattle.inotree.specs.InoSets.{InoSet}
use Rattle.inotree.specs.Tree.{Nodes}
use Rattle.captable.specs.Calls.{issued, renumbered}
use Rattle.captable.specs.declared.entry.Entry.{Entry}
use Rattle.captable.specs.declared.entry.EntryRow.{EntryRow}
use Rattle.captable.specs.declared.entry.Holder.{Holder}
use Rattle.sessiontab.specs.Table.{SessionTable}
use Rattle.lockmachine.specs.Inodes.{StateMap}
use Rattle.lockmachine.specs.Policy.{permitted}
use Rattle.lockmachine.specs.declared.states.InodeLocks.{InodeLocks}

-- the clients of these entries
abbrev pub clients_of : List EntryRow → List ℕ
clients_of rows = each (λ row. row.holder.client.0) rows

-- the entry, once this was issued: it has a new number if its client is told of another set than was known, so far as it still
-- held that
abbrev pub numbered_as : Caps → Caps → Caps → EntryRow → Entry
numbered_as known pending issuable row = renumbered (meet known row.entry.held) pending (issued issuable row.entry)

-- what its client is to know of at the end, where its inode has these locks
abbrev pub pending_at : List ℕ → Nodes → SessionTable → Option InodeLocks → EntryRow → Caps
pending_at fs tree sessions locks row =
    pending_under (permitted fs tree sessions row.holder) locks (record row { entry = issued (issuable_under fs tree sessions locks row) row.entry })

-- the entry at the end, where this was known of entries
abbrev pub entry_under : (Holder → Caps) → List ℕ → Nodes → SessionTable → Option InodeLocks → EntryRow → Entry
entry_under known fs tree sessions locks row =
    numbered_as (known row.holder) (pending_at fs tree sessions locks row) (issuable_under fs tree sessions locks row) row

-- both by the locks of all inodes
abbrev pub pending_by : List ℕ → Nodes → SessionTable → StateMap → EntryRow → Caps
pending_by fs tree sessions states row = pending_at fs tree sessions (map.get states row.holder.ino.0) row

abbrev pub entry_by : (Holder → Caps) → List ℕ → Nodes → SessionTable → StateMap → EntryRow → Entry
entry_by known fs tree sessions states row = entry_under known fs tree sessions (map.get states row.holder.ino.0) row

-- whether the row is an entry on one of these inodes
abbrev pub is_on : InoSet → EntryRow → Bool
is_on inos row = set.contains inos row.holder.ino.0
