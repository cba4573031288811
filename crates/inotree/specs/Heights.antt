-- How far down something may lie below each directory, as far as it is known.
use Rattle.std.specs.Prelude.{◌≡◌, ℕ, ◌<◌, ◌⊎◌, ◌≤◌, List, true, false, if◌then◌else◌, unwrap_or}
use Rattle.std.specs.Coded.{Coded, coded_ℕ}
use Rattle.std.specs.FinMap as map
use Rattle.std.specs.FinMap.{FinMap}
use Rattle.std.specs.Ordering.{nat_cmp}
use Rattle.inotree.specs.Inodes.{InodeMap}
use Rattle.inotree.specs.Index.{NameIndex, index_descends}
use Rattle.inotree.specs.Tree.{IsIndexed, IsTree, IsUnder, is_directory}

-- a number of steps for each directory
abbrev pub HeightMap : Type 0
HeightMap = FinMap nat_cmp ℕ

-- heights are stored as their entries
abbrev pub height_map_code : Coded HeightMap
height_map_code = map.code coded_ℕ coded_ℕ

-- nothing lies more steps below the directory than this; 32 or more say nothing
abbrev pub bound : HeightMap → ℕ → ℕ
bound heights dir = unwrap_or (map.get heights dir) 32

-- the same of any inode: below a file lies nothing
abbrev pub height : InodeMap → HeightMap → ℕ → ℕ
height nodes heights ino = if is_directory nodes ino then bound heights ino else 0

-- where its height is known, a directory is higher than what stands in it
abbrev pub IsHigher : InodeMap → HeightMap → ℕ → ℕ → Type 0
IsHigher nodes heights dir ino = height nodes heights dir < 32 → height nodes heights ino < height nodes heights dir

-- each directory is higher than what stands in it, where its height is known
pub record HeightsRise (nodes : InodeMap) (heights : HeightMap) : Type 0 where
  pub higher : (ino dir : ℕ) (name : List ℕ) → IsUnder nodes ino dir name → IsHigher nodes heights dir ino

-- the same, but for one inode and its directory
abbrev pub HeightsRiseBut : InodeMap → HeightMap → ℕ → Type 0
HeightsRiseBut nodes heights but = (ino dir : ℕ) (name : List ℕ) → IsUnder nodes ino dir name → (ino ≡ but) ⊎ IsHigher nodes heights dir ino

-- where its height is known, a directory is at least as high as any way down from it by the index is long
abbrev pub AreBounds : InodeMap → HeightMap → NameIndex → Type 0
AreBounds nodes heights index = (steps ino : ℕ) → index_descends steps index ino ≡ true → height nodes heights ino < 32 → steps ≤ height nodes heights ino

-- the inodes of some tree
abbrev pub AreOfTree : InodeMap → Type 0
AreOfTree nodes = (last : ℕ) × IsTree (record { nodes = nodes; last = last })

-- heights that differ at most in that of one directory
abbrev pub SameBut : ℕ → HeightMap → HeightMap → Type 0
SameBut dir old new = (other : ℕ) → (other ≡ dir → ⊥) → bound new other ≡ bound old other

-- no height is greater than before
abbrev pub AreNoHigher : InodeMap → HeightMap → HeightMap → Type 0
AreNoHigher nodes old new = (ino : ℕ) → height nodes new ino ≤ height nodes old ino

-- of each inode it is known
abbrev pub AreAllKnown : InodeMap → HeightMap → Type 0
AreAllKnown nodes heights = (ino : ℕ) → height nodes heights ino < 32

-- where all are known, and nothing lies so many steps below an inode, its height says so
abbrev pub IsLowered : InodeMap → NameIndex → ℕ → ℕ → HeightMap → HeightMap → Type 0
IsLowered nodes index ino steps old new = AreAllKnown nodes old → index_descends steps index ino ≡ false → height nodes new ino < steps

-- the index and the heights fit these inodes
abbrev pub AreConsistent : InodeMap → NameIndex → HeightMap → Type 0
AreConsistent nodes index heights = IsIndexed nodes index × HeightsRise nodes heights
