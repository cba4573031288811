-- What a block says: the grants of a client on a file system, read once.
use Rattle.std.specs.Prelude.{◌≡◌, ◌==◌, ◌≤◌, not, ℕ, List, [], ◌∷◌, length, take, drop, Option, Some, None, if◌then◌else◌}
use Rattle.std.specs.List.{slice_split}
use Rattle.capspec.specs.declared.flags.Flags4.{Flags4}
use Rattle.capspec.specs.declared.flags.Flags4.TheVariants.{R, Rw, Rwp, Rwps, Rws}
use Rattle.capspec.specs.declared.grant.Grant.{Grant}
use Rattle.capffi.specs.declared.block.Block.{Block}
use Rattle.capffi.specs.declared.block.Entry.{Entry}

-- the names of a path's text without a slash in front: what stands between its slashes; the root has no text
abbrev pub bare_names : List ℕ → List (List ℕ)
bare_names [] = []
bare_names (b ∷ bytes) = slice_split (λ b. b == 47) (b ∷ bytes)

-- the names of the path of an entry, whose text has a slash in front
abbrev pub path_names : List ℕ → List (List ℕ)
path_names text = bare_names (drop 1 text)

-- the flags by their number; what is none is the least
unfoldable pub flags_of : ℕ → Flags4
flags_of number =
    if number == 1 then Rw
    else (if number == 2 then Rwp
    else (if number == 3 then Rws
    else (if number == 4 then Rwps
    else R)))

-- a value, where the number beside it is not 0
abbrev pub unless_zero : {A : Type 0} → ℕ → A → Option A
unless_zero number value = if number == 0 then None else Some value

-- the grant of an entry, with the texts of its path and of its file system
abbrev pub grant_of : Entry → List ℕ → List ℕ → Grant
grant_of e path fs = record {
  flags = flags_of e.flags;
  fsname = unless_zero e.fs_len fs;
  path = path_names path;
  uid = unless_zero e.has_uid e.uid;
  gids = take e.gid_count e.gids;
  root_squash = not (e.root_squash == 0);
}

-- the texts of an entry, and what stands behind them
abbrev pub path_in : Entry → List ℕ → List ℕ
path_in e text = take e.path_len text

abbrev pub fs_in : Entry → List ℕ → List ℕ
fs_in e text = take e.fs_len (drop e.path_len text)

abbrev pub behind : Entry → List ℕ → List ℕ
behind e text = drop e.fs_len (drop e.path_len text)

-- the grants of entries, whose texts stand one behind the other
abbrev pub grants_in : List Entry → List ℕ → List Grant
grants_in [] text = []
grants_in (e ∷ entries) text = grant_of e (path_in e text) (fs_in e text) ∷ grants_in entries (behind e text)

-- a block of this version, which is whole
abbrev pub IsBlock : Block → List ℕ → Type 0
IsBlock block text = (block.version ≡ 1) × (block.count ≤ 16) × (block.text_len ≤ length text)

-- the file system of a block, in front of the texts of its entries
abbrev pub block_fs : Block → List ℕ → List ℕ
block_fs block text = take block.fs_len text

-- the grants of a block
abbrev pub block_grants : Block → List ℕ → List Grant
block_grants block text = grants_in (take block.count block.entries) (drop block.fs_len text)
