-- What the items of a grant have said so far.
use Rattle.std.specs.Prelude.{◌≡◌, ℕ, Bool, true, false, Option, Some, None, List, [], unwrap_or, is_some, IsFalse}
use Rattle.std.specs.Option.{option_map}
use Rattle.capspec.specs.declared.draft.Draft.{Draft}
use Rattle.capspec.specs.declared.flags.Flags4.{Flags4}
use Rattle.capspec.specs.declared.grant.Grant.{Grant}
use Rattle.capspec.specs.declared.items.Key.{Key}
use Rattle.capspec.specs.declared.items.Key.TheVariants as keys
use Rattle.capspec.specs.Paths.{names_of}
use Rattle.capspec.specs.Bytes.{TakesWord}
use Rattle.capspec.specs.Words.{BeginsWithItem, goes_on}
use Rattle.capspec.specs.Items.{IsValue, Item, key_of}
use Rattle.capspec.specs.Items.Item.{FsName, Gids, Path, RootSquash, Uid}

-- a draft with these flags, before the items
abbrev pub no_items : Flags4 → Draft
no_items flags = record { flags = flags; fsname = None; path = None; uid = None; gids = None; root_squash = false }

-- whether there was an item with the key
abbrev pub has : Draft → Key → Bool
has draft keys.FsName = is_some draft.fsname
has draft keys.Path = is_some draft.path
has draft keys.Uid = is_some draft.uid
has draft keys.Gids = is_some draft.gids
has draft keys.RootSquash = draft.root_squash

-- the names of the path, if one was read
abbrev pub names_in : Draft → Option (List (List ℕ))
names_in draft = option_map (λ path. names_of path.now) draft.path

-- new is old with what the item says
abbrev pub Adds : Draft → Item → Draft → Type 0
Adds old (FsName name) new = new ≡ record old { fsname = Some name }
Adds old (Path names) new = (names_in new ≡ Some names) × (new ≡ record old { path = new.path })
Adds old (Uid uid) new = new ≡ record old { uid = Some uid }
Adds old (Gids gids) new = new ≡ record old { gids = Some gids }
Adds old RootSquash new = new ≡ record old { root_squash = true }

-- The text begins with the value of an item that has this key, and new is old with what it says.
pub record AddsValue (old : Draft) (key : Key) (text rest : List ℕ) (new : Draft) : Type 0 where
  pub item : Item
  pub key_is : key_of item ≡ key
  pub takes : TakesWord (λ value. IsValue value item) text rest
  pub whole : key_of item ≡ keys.Gids → IsFalse (goes_on rest)
  pub adds : Adds old item new

-- The text begins with an item of which old had nothing, and new is old with what it says.
pub record AddsItem (old : Draft) (text rest : List ℕ) (new : Draft) : Type 0 where
  pub item : Item
  pub new_key : IsFalse (has old (key_of item))
  pub begins : BeginsWithItem text item rest
  pub adds : Adds old item new

-- the grant, with the default where no item spoke
abbrev pub grant_of : Draft → Grant
grant_of draft = record {
  flags = draft.flags;
  fsname = unwrap_or draft.fsname None;
  path = unwrap_or (names_in draft) [];
  uid = draft.uid;
  gids = unwrap_or draft.gids [];
  root_squash = draft.root_squash;
}
