-- The names of the tree: which inode each directory has under each name.
use Rattle.std.specs.Prelude.{ℕ, zero, suc, ◌==◌, ◌<◌, ◌^◌, Bool, true, List, [], ◌∷◌, filter}
use Rattle.std.specs.Coded.{Coded, coded_ℕ}
use Rattle.std.specs.declared.cmp.Ordering.{Ordering}
use Rattle.std.specs.Ordering.{nat_cmp, ordering_then}
use Rattle.std.specs.List.{AllByRecursion, flat_map, list_any}
use Rattle.std.specs.FinMap as map
use Rattle.std.specs.FinMap.{FinMap}
use Rattle.capbits.specs.declared.ids.Ino.{Ino}
use Rattle.inotree.specs.declared.index.Slot.{Slot}
use Rattle.inotree.specs.contracts.index.Slot as slot
use Rattle.inotree.specs.Names.{name_cmp}

-- slots are ordered by directory, then by name
abbrev pub slot_cmp : Slot → Slot → Ordering
slot_cmp a b = ordering_then (nat_cmp a.dir b.dir) (name_cmp a.name b.name)

-- the number of the inode in each slot that is taken
abbrev pub NameIndex : Type 0
NameIndex = FinMap slot_cmp ℕ

-- an index is stored as its entries
abbrev pub index_code : Coded NameIndex
index_code = map.code slot.the_row.coded coded_ℕ

-- the names in one directory
abbrev pub names_in : ℕ → NameIndex → List (Slot × ℕ)
names_in dir index = filter (λ e. e.0.dir == dir) (map.entries index)

-- the directories have numbers of 64 bits
abbrev pub AreInodes : NameIndex → Type 0
AreInodes index = AllByRecursion (λ e. e.0.dir < 2 ^ 64) (map.entries index)

-- something lies so many steps below
unfoldable pub index_descends : ℕ → NameIndex → ℕ → Bool
index_descends zero index dir = true
index_descends (suc n) index dir = list_any (λ e. index_descends n index e.1) (names_in dir index)

-- the inode, and what lies at most so many steps below it
unfoldable pub gathered : ℕ → NameIndex → ℕ → List Ino
gathered zero index ino = record { 0 = ino } ∷ []
gathered (suc n) index ino = record { 0 = ino } ∷ flat_map (λ e. gathered n index e.1) (names_in ino index)
