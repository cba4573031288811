-- The items of a grant that Ceph 16 reads, and their order. Here the items may stand in any order.
use Rattle.std.specs.Prelude.{◌≡◌, ◌⊎◌, ℕ, Bool, Option, Some, None, List, [], ◌∷◌, ◌++◌, if◌then◌else◌}
use Rattle.capspec.specs.Items.{Item}
use Rattle.capspec.specs.Items.Item.{FsName, Gids, Path, RootSquash, Uid}

-- the item with this value, if there is one
abbrev pub item_of : {A : Type 0} → (A → Item) → Option A → List Item
item_of make None = []
item_of make (Some value) = make value ∷ []

-- [fsname=NAME] [path=PATH] [root_squash], and no `*` for the name
abbrev pub IsForFileSystem : List Item → Type 0
IsForFileSystem items =
    (name : Option (List ℕ)) × (path : Option (List (List ℕ))) × (squash : Bool)
    × (items ≡ item_of (λ n. FsName (Some n)) name ++ (item_of Path path ++ (if squash then RootSquash ∷ [] else [])))

-- [path=PATH] [uid=N [gids=N,N]]
abbrev pub IsForUser : List Item → Type 0
IsForUser items =
    (path : Option (List (List ℕ))) × (uid : Option ℕ) × (gids : Option (List ℕ))
    × (items ≡ item_of Path path ++ (item_of Uid uid ++ item_of Gids gids))

-- one of the two
abbrev pub IsInCephOrder : List Item → Type 0
IsInCephOrder items = IsForFileSystem items ⊎ IsForUser items
