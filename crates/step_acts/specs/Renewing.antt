-- What clients are permitted, kept anew.
use Rattle.std.specs.Prelude.{◌≡◌, ◌≢◌, ℕ, Bool, true, false, Some, is_some, ◌⊎◌}
use Rattle.capbits.specs.Caps.{Caps}
use Rattle.inotree.specs.Alike.{IsAlike}
use Rattle.inotree.specs.InoSets.{InoSet}
use Rattle.inotree.specs.Tree.{Nodes, is_within}
use Rattle.captable.specs.Table.{Table, entry_at}
use Rattle.captable.specs.declared.entry.Holder.{Holder}
use Rattle.capstep.specs.declared.outcome.Outcome.{Outcome}
use Rattle.capstep.specs.Changing.{tree_after}
use Rattle.lockmachine.specs.declared.request.Request.{Request}
use Rattle.lockmachine.specs.Scene.{Scene}
use Rattle.step_acts.specs.Known.{ClientViews, known_of, permitted_of}
use Rattle.step_acts.specs.AffectedInodes.{Covers}
use Rattle.step_acts.specs.Served.{is_rename}

-- the holder has an entry
abbrev pub has_entry : Table → Holder → Bool
has_entry table k = is_some (entry_at table k)

-- of each of these holders it is kept that its client is permitted this, of the others what was kept of that, and of all what their
-- clients are to know of is what it was
pub record Renews (among : Holder → Bool) (may : Holder → Caps) (was now : ClientViews) : Type 0 where
  pub anew : (k : Holder) → among k ≡ true → permitted_of now k ≡ Some (may k)
  pub others : (k : Holder) → among k ≡ false → permitted_of now k ≡ permitted_of was k
  pub pending : (k : Holder) → known_of now k ≡ known_of was k

-- from this tree the request was served, and ended so: each inode but its own is alike, unless it was to move that and the other lies
-- below; and what it moved is covered, or the tree stayed as it was
pub record ServedFrom (tree : Nodes) (q : Request) (o : Outcome) (affected : InoSet) (s : Scene) : Type 0 where
  pub after : s.tree ≡ tree_after tree q o
  pub alike : (other : ℕ) → other ≢ q.ino.0 → (is_rename q.operation ≡ true → is_within tree.nodes other q.ino.0 ≡ false) → IsAlike tree s.tree other
  pub covers : (s.tree ≡ tree) ⊎ Covers q tree s.table affected
