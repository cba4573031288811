-- The locks of a tree that are added one number after another.
use Rattle.std.proofs.Common.{◌≡◌, ℕ, ◌+◌, ◌<◌, ◌≤◌, [], None, refl, arith, if◌then◌else◌}
use Rattle.std.specs.Cmp.{nat_cmp_total, unsigned_tied}
use Rattle.std.specs.Option.{option_map}
use Rattle.std.specs.FinMap as map
use Rattle.inotree.specs.Inodes.{InodeMap}
use Rattle.lockmachine.specs.Locks.{no_locks, with_ino}
use Rattle.capcore.proofs.CommonPieces.{InodeLocks, IsTree, LockMap, Nodes, in_sync}

-- The locks are those of the inodes with a number below n, each as it begins.
pub record AreFirstBelow (nodes : InodeMap) (n : ℕ) (locks : LockMap) : Type 0 where
  pub queue : locks.queue ≡ []
  pub last : locks.last ≡ 0
  pub below : (q : ℕ) → q < n → map.get locks.states q ≡ option_map (λ node. in_sync) (map.get nodes q)
  pub above : (q : ℕ) → n ≤ q → map.get locks.states q ≡ None

pub first_below_none : (nodes : InodeMap) → AreFirstBelow nodes 0 no_locks
first_below_none nodes = record { queue = refl; last = refl; below = λ q h. absurd (omega arith); above = λ q h. map.get-empty _ q }

-- the locks of the next number were added, where it has an inode
pub first_below_more : (nodes : InodeMap) (n : ℕ) (locks added : LockMap) → AreFirstBelow nodes n locks → added ≡ (if map.contains_key nodes n then with_ino locks n else locks) → AreFirstBelow nodes (n + 1) added
first_below_more nodes n locks added first is = grind (arith, map.get-insert {X = InodeLocks} nat_cmp_total, unsigned_tied)

-- no inode has a number above the last
pub first_of_all : (tree : Nodes) (last : ℕ) (locks : LockMap) → IsTree tree → last ≡ tree.last → AreFirstBelow tree.nodes (last + 1) locks → (q : ℕ) → map.get locks.states q ≡ option_map (λ node. in_sync) (map.get tree.nodes q)
first_of_all tree last locks sound is first q = grind arith
