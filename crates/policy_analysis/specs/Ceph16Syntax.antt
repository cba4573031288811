-- How the grants of a text stand in it, and why Ceph 16 does not read one so.
use Rattle.std.specs.Prelude.{◌≡◌, ℕ, ◌==◌, nat_le, Bool, true, false, Option, Some, None, List, [], ◌∷◌, ◌++◌, map, if◌then◌else◌}
use Rattle.std.specs.List.{list_all}
use Rattle.std.specs.Option.{option_or}
use Rattle.capspec.specs.declared.grant.Grant.{Grant}
use Rattle.capspec.specs.declared.items.Key.{Key}
use Rattle.capspec.specs.declared.items.Key.TheVariants as keys
use Rattle.byte_sets.specs.Sets.{is_mark}
use Rattle.capspec.specs.Grants.{IsGrant}
use Rattle.capspec.specs.Items.{Item, key_of}
use Rattle.capspec.specs.Items.Item.{FsName}
use Rattle.capspec.specs.Separated.{AreSeparated}
use Rattle.policy_analysis.specs.declared.unread.Unread.{Unread}
use Rattle.policy_analysis.specs.declared.unread.Unread.TheVariants.{AnyFileSystem, Order, WhiteSpace}

-- ---- items

-- the place of a key in the order in which Ceph 16 reads items: [fsname] [path] [root_squash], or [path] [uid [gids]]
abbrev pub rank : Key → ℕ
rank keys.FsName = 0
rank keys.Path = 1
rank keys.Uid = 2
rank keys.Gids = 3
rank keys.RootSquash = 4

-- `fsname=*`
abbrev pub is_any_name : Item → Bool
is_any_name (FsName None) = true
is_any_name item = false

-- an item with this key has its place before the last one, and not behind it
abbrev pub wrong_order : Option Key → Key → Option Unread
wrong_order None key = None
wrong_order (Some last) key = if nat_le (rank key) (rank last) then Some (Order key last) else None

-- why Ceph 16 does not read the item behind one with the last key
abbrev pub wrong_behind : Option Key → Item → Option Unread
wrong_behind last item = if is_any_name item then Some AnyFileSystem else wrong_order last (key_of item)

-- the first reason in these items
abbrev pub first_wrong : Option Key → List Item → Option Unread
first_wrong last [] = None
first_wrong last (item ∷ items) = option_or (wrong_behind last item) (first_wrong (Some (key_of item)) items)

-- ---- grants

-- How a grant stands in its text: the white space before and behind it, and its items in the order in which they stand.
pub record GrantText : Type 0 where
  pub grant : Grant
  pub before : List ℕ
  pub items : List Item
  pub after : List ℕ

-- the text is that of a grant that stands so
abbrev pub Stands : List ℕ → GrantText → Type 0
Stands text s = (is : IsGrant text s.grant) × (s.before ≡ is.before) × (s.items ≡ is.items) × (s.after ≡ is.after)

abbrev pub are_spaces : List ℕ → Bool
are_spaces white = list_all (λ b. b == 32) white

-- what is wrong with this white space round a separator
abbrev pub wrong_white : List ℕ → Option Unread
wrong_white around = if are_spaces around then None else Some WhiteSpace

-- why Ceph 16 does not read a grant with these items behind it: the first reason from the left
abbrev pub why : List ℕ → List Item → Option Unread
why around items = option_or (wrong_white around) (first_wrong None items)

-- the same of each grant, in their order; around: what stands round the separator before the first of them
abbrev pub why_each : List ℕ → List GrantText → List (Option Unread)
why_each around [] = []
why_each around (s ∷ []) = why around s.items ∷ []
why_each around (s ∷ next ∷ more) = why around s.items ∷ why_each (s.after ++ next.before) (next ∷ more)

-- What is told of the grants that a text means. White space at its ends counts for nothing.
pub record AreReported (text : List ℕ) (grants : List Grant) (reported : List (Option Unread)) : Type 0 where
  pub texts_of_grants : List GrantText
  pub stand : AreSeparated is_mark Stands text texts_of_grants
  pub of_grants : map (λ s. s.grant) texts_of_grants ≡ grants
  pub reported_are : reported ≡ why_each [] texts_of_grants
