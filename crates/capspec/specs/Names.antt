-- Names of file systems.
use Rattle.std.specs.Prelude.{ℕ, ◌<◌, ◌≤◌, List, length, IsTrue}
use Rattle.std.specs.List.{list_all}
use Rattle.byte_sets.specs.Sets.{is_fs_name_byte}

-- 1 to 64 bytes, each one that the name of a file system may have
pub record IsFsName (bytes : List ℕ) : Type 0 where
  pub some : 0 < length bytes
  pub short : length bytes ≤ 64
  pub all_in : IsTrue (list_all is_fs_name_byte bytes)
