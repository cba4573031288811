-- What a step does once the locks have settled: where a size was changed, it is to be told; then it issues what may be held,
-- forgets strays that nobody has an entry on, and numbers what changed.
use Rattle.std.specs.List.{find, list_any}
use Rattle.std.specs.Option.{option_map_or}
use Rattle.std.specs.Prelude.{ℕ, Bool, true, not, ◌||◌, List, map, Option, if◌then◌else◌}
use Rattle.std.specs.FinMap as finite
use Rattle.capbits.specs.Caps.{Caps, has}
use Rattle.capbits.specs.Sets.{meet, no_caps}
use Rattle.capbits.specs.declared.cap.Cap.TheVariants.{Fc}
use Rattle.capbits.specs.declared.ids.Ino.{Ino}
use Rattle.inotree.specs.Tests.{is_gone}
use Rattle.inotree.specs.Tree.{Nodes, presence}
use Rattle.captable.specs.Calls.{is_of_inode, issued, renumbered, with_size_due}
use Rattle.captable.specs.Many.{changed_where}
use Rattle.captable.specs.Table.{is_row_of}
use Rattle.captable.specs.declared.entry.Entry.{Entry}
use Rattle.captable.specs.declared.entry.EntryRow.{EntryRow}
use Rattle.sessiontab.specs.Table.{SessionTable}
use Rattle.lockmachine.specs.Scene.{Scene, pending_of}
use Rattle.lockmachine.specs.Under.{allowed_under}
use Rattle.lockmachine.specs.Wants.{effective_want}
use Rattle.lockmachine.specs.declared.states.InodeLocks.{InodeLocks}

-- ---- sizes

-- the row is an entry on one of these inodes
abbrev pub is_sized : List Ino → EntryRow → Bool
is_sized sized row = list_any (λ ino. is_of_inode ino row) sized

-- the entry of a client that caches the data, which is to be told the size. No move changes what is held, so it cached the data
-- when the size was changed
abbrev pub owed : EntryRow → Entry
owed row = if has row.entry.held Fc then with_size_due true row.entry else row.entry

-- the scene, where the sizes of these inodes were changed
abbrev pub sizes_owed : List Ino → Scene → Scene
sizes_owed sized s = record s { table = changed_where (is_sized sized) owed s.table }

-- ---- issue

-- what the entry's client effectively wants, and these locks of its inode allow
abbrev pub issuable_under : List ℕ → Nodes → SessionTable → Option InodeLocks → EntryRow → Caps
issuable_under fs tree sessions locks row = meet (effective_want fs tree sessions row) (allowed_under locks row)

-- and by the locks of the scene
abbrev pub issuable : Scene → EntryRow → Caps
issuable s row = issuable_under s.fs s.tree s.sessions (finite.get s.locks.states row.holder.ino.0) row

-- the entry gains it
abbrev pub issue_row : Scene → EntryRow → EntryRow
issue_row s row = record row { entry = issued (issuable s row) row.entry }

-- and so does each
abbrev pub issue : Scene → Scene
issue s = record s { table = record s.table { rows = map (issue_row s) s.table.rows } }

-- ---- forget

-- the inode is no stray, or somebody has an entry on it
abbrev pub is_in_use : Scene → ℕ → Bool
is_in_use s ino = not (is_gone (presence s.tree.nodes ino)) || list_any (is_of_inode (record { 0 = ino })) s.table.rows

-- the others go, with their locks
abbrev pub forget : Scene → Scene
forget s = record s {
  tree = record s.tree { nodes = finite.retain_keys s.tree.nodes (is_in_use s) };
  locks = record s.locks { states = finite.retain_keys s.locks.states (is_in_use s) };
}

-- ---- numbers

-- what its client knew and still holds: what this row, which stands behind the event, holds and was not being revoked before it
abbrev pub still_known : Scene → Option EntryRow → Caps
still_known before row = option_map_or (pending_of before) row no_caps

-- the entry, renumbered where its client is to know another set in the last scene
abbrev pub number_row : Scene → Scene → Scene → EntryRow → EntryRow
number_row before behind last row =
    record row { entry = renumbered (still_known before (find (is_row_of row.holder) behind.table.rows)) (pending_of last row) row.entry }

-- of each entry
abbrev pub number : Scene → Scene → Scene → Scene
number before behind last = record last { table = record last.table { rows = map (number_row before behind last) last.table.rows } }

-- the end of a step: from the scenes before and behind the event, and the one in which the locks have settled
abbrev pub finished : Scene → Scene → Scene → Scene
finished before behind settled = number before behind (forget (issue settled))
