-- Which text means which grants.
use Rattle.std.specs.Prelude.{◌≡◌, ◌⊎◌, ℕ, ◌<◌, ◌≤◌, Option, Some, None, Bool, true, false, List, [], ◌∷◌, ◌++◌, length, codes, filter_map, IsTrue}
use Rattle.std.specs.List.{list_all}
use Rattle.capspec.specs.declared.grant.Grant.{Grant}
use Rattle.byte_sets.specs.Sets.{is_mark, is_white}
use Rattle.capspec.specs.Flags.{IsFlags}
use Rattle.capspec.specs.Items.{IsItem, Item}
use Rattle.capspec.specs.Separated.{AreSeparated}
use Rattle.capspec.specs.Items.Item.{FsName, Gids, Path, RootSquash, Uid}

-- what an item says of one field of the grant; None where it is not about that field
abbrev pub fsname_in : Item → Option (Option (List ℕ))
fsname_in (FsName name) = Some name
fsname_in item = None

abbrev pub path_in : Item → Option (List (List ℕ))
path_in (Path names) = Some names
path_in item = None

abbrev pub uid_in : Item → Option (Option ℕ)
uid_in (Uid uid) = Some (Some uid)
uid_in item = None

abbrev pub gids_in : Item → Option (List ℕ)
gids_in (Gids gids) = Some gids
gids_in item = None

abbrev pub root_squash_in : Item → Option Bool
root_squash_in RootSquash = Some true
root_squash_in item = None

-- at most one item speaks of the field, which is what it says, or else the default
abbrev pub IsSaidOnce : {A : Type 0} → A → List A → A → Type 0
IsSaidOnce default [] field = field ≡ default
IsSaidOnce default (said ∷ []) field = field ≡ said
IsSaidOnce default (said ∷ again ∷ more) field = ⊥

-- the items, in any order, say what the grant is
pub record AreItemsOf (items : List Item) (grant : Grant) : Type 0 where
  pub fsname : IsSaidOnce None (filter_map fsname_in items) grant.fsname
  pub path : IsSaidOnce [] (filter_map path_in items) grant.path
  pub uid : IsSaidOnce None (filter_map uid_in items) grant.uid
  pub gids : IsSaidOnce [] (filter_map gids_in items) grant.gids
  pub root_squash : IsSaidOnce false (filter_map root_squash_in items) grant.root_squash
  pub gids_with_uid : filter_map uid_in items ≡ [] → filter_map gids_in items ≡ []

-- white space alone, or nothing
abbrev pub IsBlank : List ℕ → Type 0
IsBlank text = IsTrue (list_all is_white text)

-- what stands between two words
abbrev pub IsGap : List ℕ → Type 0
IsGap text = IsBlank text × (0 < length text)

-- the items as text, with a gap before each
abbrev pub AreWordsOf : List ℕ → List Item → Type 0
AreWordsOf text [] = text ≡ []
AreWordsOf text (item ∷ items) = (gap word rest : List ℕ) × (text ≡ gap ++ (word ++ rest)) × IsGap gap × IsItem word item × AreWordsOf rest items

-- one grant: `allow`, a gap, its flags, its items; with or without white space round it
pub record IsGrant (text : List ℕ) (grant : Grant) : Type 0 where
  pub before : List ℕ
  pub gap : List ℕ
  pub flags : List ℕ
  pub words : List ℕ
  pub after : List ℕ
  pub items : List Item
  pub parts : text ≡ before ++ (codes "allow" ++ (gap ++ (flags ++ (words ++ after))))
  pub blank_before : IsBlank before
  pub is_gap : IsGap gap
  pub are_flags : IsFlags flags grant.flags
  pub are_words : AreWordsOf words items
  pub are_items : AreItemsOf items grant
  pub blank_after : IsBlank after

-- The text means these grants: one to sixteen, with `,` or `;` between each two.
pub record Reads (text : List ℕ) (grants : List Grant) : Type 0 where
  pub are_grants : AreSeparated is_mark IsGrant text grants
  pub few : length grants ≤ 16

-- There is no grant, or some text means these grants.
abbrev pub AreNoneOrRead : List Grant → Type 0
AreNoneOrRead grants = (grants ≡ []) ⊎ ((text : List ℕ) × Reads text grants)
