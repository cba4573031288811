-- Small maps, sets and lists.
use Rattle.std.specs.Prelude.{ℕ, List}
use Rattle.std.specs.List.{fold}
use Rattle.std.specs.Ordering.{nat_cmp}
use Rattle.std.specs.FinMap as map
use Rattle.std.specs.FinMap.{FinMap}
use Rattle.std.specs.FinSet as set
use Rattle.cap_arena.specs.Calls.{Adds, Removes, Touches, node}
use Rattle.cap_arena.specs.Lists.{ListName, Lists, OfClient, OfInode, empty}
use Rattle.inotree.specs.InoSets.{InoSet}

-- values that were put under these numbers, one after the other
abbrev pub put_in : List (ℕ × ℕ) → FinMap nat_cmp ℕ
put_in rows = fold (λ m row. map.insert m row.0 row.1) map.empty rows

-- inodes that were taken in
abbrev pub taken_in : List ℕ → InoSet
taken_in inos = fold (λ taken ino. set.insert taken ino) set.empty inos

abbrev pub of_inode : ℕ → ListName
of_inode ino = OfInode (record { 0 = ino })

abbrev pub of_client : ℕ → ListName
of_client client = OfClient (record { 0 = client })

-- a node is added, for a client on an inode
abbrev pub IsAdded : Lists ℕ → Lists ℕ → ℕ → ℕ → ℕ → Type 0
IsAdded old new key client ino = Adds old new key (node (record { 0 = client }) (record { 0 = ino }) 0)

-- one client's nodes on two inodes come first, and one of another on the first inode; then the first is touched, and the last removed
pub record AreSteps (one two three touched removed : Lists ℕ) : Type 0 where
  pub first : IsAdded empty one 0 1 2
  pub second : IsAdded one two 1 1 3
  pub third : IsAdded two three 2 2 2
  pub touches : Touches three touched 0
  pub removes : Removes touched removed 2
