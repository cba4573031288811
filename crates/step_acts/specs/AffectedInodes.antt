-- The inodes that a step affects, and those that a rename in it reaches.
use Rattle.std.specs.Prelude.{◌≡◌, ℕ, true, ◌⊎◌, Contains}
use Rattle.std.specs.FinSet as set
use Rattle.inotree.specs.InoSets.{InoSet}
use Rattle.inotree.specs.Tree.{Nodes, is_within}
use Rattle.captable.specs.Table.{Table}
use Rattle.captable.specs.declared.entry.EntryRow.{EntryRow}
use Rattle.lockmachine.specs.declared.request.Request.{Request}
use Rattle.step_acts.specs.Served.{is_rename}

-- every inode at or below one that somebody has an entry on is affected
abbrev pub CoversBelow : ℕ → Nodes → Table → InoSet → Type 0
CoversBelow above tree table affected =
    (row : EntryRow) → Contains table.rows row → is_within tree.nodes row.holder.ino.0 above ≡ true → set.contains affected row.holder.ino.0 ≡ true

-- if the request moves its inode, that is so of it
abbrev pub Covers : Request → Nodes → Table → InoSet → Type 0
Covers q tree table affected = is_rename q.operation ≡ true → CoversBelow q.ino.0 tree table affected

-- and it is so of each inode from which a rename of this step has walked over what lies below
abbrev pub AreWalked : InoSet → Nodes → Table → InoSet → Type 0
AreWalked walked tree table affected = (above : ℕ) → set.contains walked above ≡ true → CoversBelow above tree table affected

-- what was affected stays so
abbrev pub Widens : InoSet → InoSet → Type 0
Widens old new = (ino : ℕ) → set.contains old ino ≡ true → set.contains new ino ≡ true

-- when the request is served, what was affected stays so; what it moves is covered, or the tree stays as it was
pub record IsWidenedBy (q : Request) (tree after : Nodes) (table : Table) (old new : InoSet) : Type 0 where
  pub widens : Widens old new
  pub covers : (after ≡ tree) ⊎ Covers q tree table new
