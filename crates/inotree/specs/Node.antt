-- What an inode keeps by name, and the inodes by number.
use Rattle.std.specs.Prelude.{List, ℕ}
use Rattle.std.specs.Coded.{Coded, coded_list, coded_ℕ}
use Rattle.std.specs.FinMap as map
use Rattle.std.specs.FinMap.{FinMap}
use Rattle.std.specs.FinSet as set
use Rattle.std.specs.FinSet.{FinSet}
use Rattle.inotree.specs.Names.{name_cmp}

-- the value of each attribute that is there
abbrev pub AttributeMap : Type 0
AttributeMap = FinMap name_cmp (List ℕ)

abbrev pub attribute_map_code : Coded AttributeMap
attribute_map_code = map.code (coded_list coded_ℕ) (coded_list coded_ℕ)

-- the names of snapshots
abbrev pub NameSet : Type 0
NameSet = FinSet name_cmp

abbrev pub name_set_code : Coded NameSet
name_set_code = set.code (coded_list coded_ℕ)
