-- How grants are put into a block.
use Rattle.std.specs.Prelude.{◌≡◌, ◌<◌, ◌≤◌, ◌⊎◌, ℕ, Option, Some, None, Result, Ok, Err, List, [], ◌∷◌, ◌++◌, length, take, flat_map}
use Rattle.capspec.specs.Faults.{IsFault}
use Rattle.capspec.specs.Grants.{Reads}
use Rattle.capspec.specs.Names.{IsFsName}
use Rattle.capspec.specs.Paths.{slashed}
use Rattle.capspec.specs.declared.grant.Grant.{Grant}
use Rattle.capffi.specs.declared.block.Block.{Block}
use Rattle.capffi.specs.declared.block.Entry.{Entry}
use Rattle.capffi.specs.declared.filling.Ready.{Ready}
use Rattle.capffi.specs.declared.trouble.Trouble.{Trouble}
use Rattle.capffi.specs.declared.trouble.Trouble.TheVariants as troubles
use Rattle.capffi.specs.Blocks.{IsBlock, block_fs, block_grants, grant_of, path_names}
use Rattle.capffi.specs.Texts.{IsPut}
use Rattle.capffi.specs.Trouble.{status_of}

-- the name of a grant's file system, or nothing where it has none
abbrev pub fs_text : Option (List ℕ) → List ℕ
fs_text None = []
fs_text (Some name) = name

-- the text of a grant in a block: its path, and behind it the name of its file system
abbrev pub text_of : Grant → List ℕ
text_of g = slashed g.path ++ fs_text g.fsname

abbrev pub texts_of : List Grant → List ℕ
texts_of grants = flat_map text_of grants

-- the text of a block: the name of the file system, and behind it the texts of the grants
abbrev pub block_text : List ℕ → List Grant → List ℕ
block_text fs grants = fs ++ texts_of grants

-- the name of a file system has a byte
abbrev pub IsNoneOrSome : Option (List ℕ) → Type 0
IsNoneOrSome None = Unit {0}
IsNoneOrSome (Some name) = 0 < length name

-- a block can say the grant
pub record CanBeWritten (g : Grant) : Type 0 where
  pub path : path_names (slashed g.path) ≡ g.path
  pub fsname : IsNoneOrSome g.fsname
  pub gids : length g.gids ≤ 16

-- the entry says the grant, with its texts
pub record IsEntryOf (e : Entry) (g : Grant) : Type 0 where
  pub path_len : e.path_len ≡ length (slashed g.path)
  pub fs_len : e.fs_len ≡ length (fs_text g.fsname)
  pub grant : grant_of e (slashed g.path) (fs_text g.fsname) ≡ g

abbrev pub AreEntriesOf : List Entry → List Grant → Type 0
AreEntriesOf [] [] = Unit {0}
AreEntriesOf (e ∷ entries) (g ∷ grants) = IsEntryOf e g × AreEntriesOf entries grants
AreEntriesOf entries grants = ⊥

-- entries and a text that say what a text of grants means
abbrev pub IsReady : List ℕ → List ℕ → Ready → Type 0
IsReady text fs ready =
    (grants : List Grant) × Reads text grants × IsFsName fs × (ready.fs_len ≡ length fs) × (ready.text.items ≡ block_text fs grants) × AreEntriesOf ready.entries.items grants

-- why there are none: the fault of the grants, else a name that no file system has, else that memory was missing
abbrev pub IsReadTrouble : List ℕ → List ℕ → Trouble → Type 0
IsReadTrouble text fs (troubles.Grants fault) = IsFault text fault
IsReadTrouble text fs troubles.Fs = ((grants : List Grant) × Reads text grants) × (¬ IsFsName fs)
IsReadTrouble text fs troubles.Memory = Unit {0}
IsReadTrouble text fs trouble = ⊥

-- the block is whole, and says the grants on the file system
pub record Says (block : Block) (text fs : List ℕ) (grants : List Grant) : Type 0 where
  pub is_block : IsBlock block text
  pub is_fs : block_fs block text ≡ fs
  pub are_grants : block_grants block text ≡ grants

-- the text was put, and with it the block; or there was no room, and both are as they were
abbrev pub IsPutInBlock : Ready → Block → Block → List ℕ → List ℕ → ℕ → ℕ → Type 0
IsPutInBlock ready old new before after len reported =
    IsPut ready.text.items before after len reported
    × (((reported ≡ 0) × (new.version ≡ 1) × (new.count ≡ length ready.entries.items) × (new.text_len ≡ length ready.text.items) × (new.fs_len ≡ ready.fs_len) × (take new.count new.entries ≡ ready.entries.items))
    ⊎ ((reported ≡ 11) × (new ≡ old)))

-- the grants of the text on the file system were put into the block, or there was no room; or there are none, and all is as it was
abbrev pub IsFilled : List ℕ → List ℕ → Block → Block → List ℕ → List ℕ → ℕ → ℕ → Result (List Grant) Trouble → Type 0
IsFilled text fs old new before after len reported (Ok grants) =
    Reads text grants × IsFsName fs × IsPut (block_text fs grants) before after len reported × (((reported ≡ 0) × Says new after fs grants) ⊎ ((reported ≡ 11) × (new ≡ old)))
IsFilled text fs old new before after len reported (Err trouble) = IsReadTrouble text fs trouble × (reported ≡ status_of trouble) × (len ≡ 0) × (after ≡ before) × (new ≡ old)
