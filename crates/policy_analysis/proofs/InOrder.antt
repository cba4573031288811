-- The items of a grant that Ceph 16 reads in some order: nothing is told of them where they stand in it.
use Rattle.std.proofs.Common.{◌≡◌, ℕ, Bool, true, false, not, List, [], ◌∷◌, ◌++◌, Some, None, Option, inl, inr, refl, sym, ap, ◌∙◌}
use Rattle.std.specs.Prelude.{filter_map, if◌then◌else◌, ◌↔◌, IsTrue}
use Rattle.std.specs.List.{list_all}
use Rattle.std.specs.Option.{option_or}
use Rattle.std.proofs.lemmas.Bool.{and_parts, true≢false}
use Rattle.policy_analysis.specs.CephOrder.{IsForFileSystem, IsForUser, IsInCephOrder, item_of}
use Rattle.policy_analysis.specs.Linting.{HasCephText}
use Rattle.policy_analysis.proofs.CephTexts.{user_has_text}
use Rattle.capspec.specs.declared.grant.Grant.{Grant}
use Rattle.capspec.specs.Grants.{AreItemsOf, IsSaidOnce, fsname_in, gids_in, root_squash_in, uid_in}
use Rattle.capspec.specs.Items.{Item, key_of}
use Rattle.capspec.specs.Items.Item.{FsName, Gids, Path, RootSquash, Uid}
use Rattle.capspec.specs.declared.items.Key.{Key}
use Rattle.capspec.specs.declared.items.Key.TheVariants as keys
use Rattle.policy_analysis.specs.declared.unread.Unread.{Unread}
use Rattle.policy_analysis.specs.declared.unread.Unread.TheVariants.{WhiteSpace}
use Rattle.policy_analysis.specs.Ceph16Syntax.{are_spaces, first_wrong, is_any_name, why, wrong_behind, wrong_white}

-- ---- of two reasons none is there exactly if neither is

no_reason : (a b : Option Unread) → option_or a b ≡ None → (a ≡ None) × (b ≡ None)
no_reason None b none = (refl, none)
no_reason (Some why) b none = absurd (never none)
  where
    never : Some why ≡ None → ⊥
    never e = cc

some_is_not : {A : Type 0} (x : A) → Some x ≡ None → ⊥
some_is_not x e = cc

-- the items behind the first, with its key as the last
behind : (last : Option Key) (item : Item) (items : List Item) → first_wrong last (item ∷ items) ≡ None → (wrong_behind last item ≡ None) × (first_wrong (Some (key_of item)) items ≡ None)
behind last item items none = no_reason (wrong_behind last item) (first_wrong (Some (key_of item)) items) none

-- ---- the order without a user

is_system : Item → Bool
is_system (FsName (Some name)) = true
is_system (FsName None) = false
is_system (Path names) = true
is_system (Uid uid) = false
is_system (Gids gids) = false
is_system RootSquash = true

abbrev squash_items : Bool → List Item
squash_items squash = if squash then RootSquash ∷ [] else []

rest_of : (item : Item) (items : List Item) → list_all is_system (item ∷ items) ≡ true → (is_system item ≡ true) × (list_all is_system items ≡ true)
rest_of item items all = and_parts (is_system item) (list_all is_system items) all

system_end : (items : List Item) → list_all is_system items ≡ true → first_wrong (Some keys.RootSquash) items ≡ None → items ≡ []
unfolding is_system
system_end [] all none = refl
system_end (FsName (Some name) ∷ items) all none = absurd (some_is_not _ none)
system_end (FsName None ∷ items) all none = absurd (true≢false (sym all))
system_end (Path names ∷ items) all none = absurd (some_is_not _ none)
system_end (Uid uid ∷ items) all none = absurd (true≢false (sym all))
system_end (Gids gids ∷ items) all none = absurd (true≢false (sym all))
system_end (RootSquash ∷ items) all none = absurd (some_is_not _ none)

system_path : (items : List Item) → list_all is_system items ≡ true → first_wrong (Some keys.Path) items ≡ None → (squash : Bool) × (items ≡ squash_items squash)
unfolding is_system
system_path [] all none = (false, refl)
system_path (FsName (Some name) ∷ items) all none = absurd (some_is_not _ none)
system_path (FsName None ∷ items) all none = absurd (true≢false (sym all))
system_path (Path names ∷ items) all none = absurd (some_is_not _ none)
system_path (Uid uid ∷ items) all none = absurd (true≢false (sym all))
system_path (Gids gids ∷ items) all none = absurd (true≢false (sym all))
system_path (RootSquash ∷ items) all none = (true, ap (λ (is : List Item). RootSquash ∷ is) (system_end items (rest_of RootSquash items all).1 none))

system_name : (items : List Item) → list_all is_system items ≡ true → first_wrong (Some keys.FsName) items ≡ None → (path : Option (List (List ℕ))) × (squash : Bool) × (items ≡ item_of Path path ++ squash_items squash)
unfolding is_system
system_name [] all none = (None, false, refl)
system_name (FsName (Some name) ∷ items) all none = absurd (some_is_not _ none)
system_name (FsName None ∷ items) all none = absurd (true≢false (sym all))
system_name (Path names ∷ items) all none =
    let more = system_path items (rest_of (Path names) items all).1 none in
    (Some names, more.0, ap (λ (is : List Item). Path names ∷ is) more.1)
system_name (Uid uid ∷ items) all none = absurd (true≢false (sym all))
system_name (Gids gids ∷ items) all none = absurd (true≢false (sym all))
system_name (RootSquash ∷ items) all none = (None, true, ap (λ (is : List Item). RootSquash ∷ is) (system_end items (rest_of RootSquash items all).1 none))

for_system : (items : List Item) → list_all is_system items ≡ true → first_wrong None items ≡ None → IsForFileSystem items
unfolding is_system
for_system [] all none = (None, None, false, refl)
for_system (FsName (Some name) ∷ items) all none =
    let more = system_name items (rest_of (FsName (Some name)) items all).1 none in
    (Some name, more.0, more.1, ap (λ (is : List Item). FsName (Some name) ∷ is) more.2)
for_system (FsName None ∷ items) all none = absurd (true≢false (sym all))
for_system (Path names ∷ items) all none =
    let more = system_path items (rest_of (Path names) items all).1 none in
    (None, Some names, more.0, ap (λ (is : List Item). Path names ∷ is) more.1)
for_system (Uid uid ∷ items) all none = absurd (true≢false (sym all))
for_system (Gids gids ∷ items) all none = absurd (true≢false (sym all))
for_system (RootSquash ∷ items) all none = (None, None, true, ap (λ (is : List Item). RootSquash ∷ is) (system_end items (rest_of RootSquash items all).1 none))

-- ---- the order with a user

is_of_user : Item → Bool
is_of_user (FsName name) = false
is_of_user (Path names) = true
is_of_user (Uid uid) = true
is_of_user (Gids gids) = true
is_of_user RootSquash = false

left_of : (item : Item) (items : List Item) → list_all is_of_user (item ∷ items) ≡ true → list_all is_of_user items ≡ true
left_of item items all = (and_parts (is_of_user item) (list_all is_of_user items) all).1

user_end : (items : List Item) → list_all is_of_user items ≡ true → first_wrong (Some keys.Gids) items ≡ None → items ≡ []
unfolding is_of_user
user_end [] all none = refl
user_end (FsName name ∷ items) all none = absurd (true≢false (sym all))
user_end (Path names ∷ items) all none = absurd (some_is_not _ none)
user_end (Uid uid ∷ items) all none = absurd (some_is_not _ none)
user_end (Gids gids ∷ items) all none = absurd (some_is_not _ none)
user_end (RootSquash ∷ items) all none = absurd (true≢false (sym all))

user_uid : (items : List Item) → list_all is_of_user items ≡ true → first_wrong (Some keys.Uid) items ≡ None → (gids : Option (List ℕ)) × (items ≡ item_of Gids gids)
unfolding is_of_user
user_uid [] all none = (None, refl)
user_uid (FsName name ∷ items) all none = absurd (true≢false (sym all))
user_uid (Path names ∷ items) all none = absurd (some_is_not _ none)
user_uid (Uid uid ∷ items) all none = absurd (some_is_not _ none)
user_uid (Gids gids ∷ items) all none = (Some gids, ap (λ (is : List Item). Gids gids ∷ is) (user_end items (left_of (Gids gids) items all) none))
user_uid (RootSquash ∷ items) all none = absurd (true≢false (sym all))

user_path : (items : List Item) → list_all is_of_user items ≡ true → first_wrong (Some keys.Path) items ≡ None → (uid : Option ℕ) × (gids : Option (List ℕ)) × (items ≡ item_of Uid uid ++ item_of Gids gids)
unfolding is_of_user
user_path [] all none = (None, None, refl)
user_path (FsName name ∷ items) all none = absurd (true≢false (sym all))
user_path (Path names ∷ items) all none = absurd (some_is_not _ none)
user_path (Uid uid ∷ items) all none =
    let more = user_uid items (left_of (Uid uid) items all) none in
    (Some uid, more.0, ap (λ (is : List Item). Uid uid ∷ is) more.1)
user_path (Gids gids ∷ items) all none = (None, Some gids, ap (λ (is : List Item). Gids gids ∷ is) (user_end items (left_of (Gids gids) items all) none))
user_path (RootSquash ∷ items) all none = absurd (true≢false (sym all))

for_user : (items : List Item) → list_all is_of_user items ≡ true → first_wrong None items ≡ None → IsForUser items
unfolding is_of_user
for_user [] all none = (None, None, None, refl)
for_user (FsName name ∷ items) all none = absurd (true≢false (sym all))
for_user (Path names ∷ items) all none =
    let more = user_path items (left_of (Path names) items all) none in
    (Some names, more.0, more.1, ap (λ (is : List Item). Path names ∷ is) more.2)
for_user (Uid uid ∷ items) all none =
    let more = user_uid items (left_of (Uid uid) items all) none in
    (None, Some uid, more.0, ap (λ (is : List Item). Uid uid ∷ is) more.1)
for_user (Gids gids ∷ items) all none = (None, None, Some gids, ap (λ (is : List Item). Gids gids ∷ is) (user_end items (left_of (Gids gids) items all) none))
for_user (RootSquash ∷ items) all none = absurd (true≢false (sym all))

-- ---- which items a grant has

no_star : (last : Option Key) (items : List Item) → first_wrong last items ≡ None → list_all (λ i. not (is_any_name i)) items ≡ true
no_star last [] none = refl
no_star last (FsName None ∷ items) none = absurd (some_is_not _ none)
no_star last (FsName (Some name) ∷ items) none = no_star (Some keys.FsName) items (behind last (FsName (Some name)) items none).1
no_star last (Path names ∷ items) none = no_star (Some keys.Path) items (behind last (Path names) items none).1
no_star last (Uid uid ∷ items) none = no_star (Some keys.Uid) items (behind last (Uid uid) items none).1
no_star last (Gids gids ∷ items) none = no_star (Some keys.Gids) items (behind last (Gids gids) items none).1
no_star last (RootSquash ∷ items) none = no_star (Some keys.RootSquash) items (behind last RootSquash items none).1

said_not : {A : Type 0} (default x : A) (said : List A) → (default ≡ x → ⊥) → IsSaidOnce default (x ∷ said) default → ⊥
said_not default x [] differs once = differs once
said_not default x (again ∷ said) differs once = once

none_is_not : {A : Type 0} (x : A) → None ≡ Some x → ⊥
none_is_not x e = cc

false_is_not : false ≡ true → ⊥
false_is_not e = cc

user_only : (items : List Item) → list_all (λ i. not (is_any_name i)) items ≡ true → IsSaidOnce None (filter_map fsname_in items) None → IsSaidOnce false (filter_map root_squash_in items) false → list_all is_of_user items ≡ true
unfolding is_of_user
user_only [] named fsname squash = refl
user_only (FsName None ∷ items) named fsname squash = absurd (true≢false (sym named))
user_only (FsName (Some name) ∷ items) named fsname squash = absurd (said_not None (Some name) (filter_map fsname_in items) (none_is_not name) fsname)
user_only (Path names ∷ items) named fsname squash = user_only items named fsname squash
user_only (Uid uid ∷ items) named fsname squash = user_only items named fsname squash
user_only (Gids gids ∷ items) named fsname squash = user_only items named fsname squash
user_only (RootSquash ∷ items) named fsname squash = absurd (said_not false true (filter_map root_squash_in items) false_is_not squash)

no_uid : (items : List Item) → IsSaidOnce None (filter_map uid_in items) None → filter_map uid_in items ≡ []
no_uid [] once = refl
no_uid (FsName name ∷ items) once = no_uid items once
no_uid (Path names ∷ items) once = no_uid items once
no_uid (Uid uid ∷ items) once = absurd (said_not None (Some uid) (filter_map uid_in items) (none_is_not uid) once)
no_uid (Gids gids ∷ items) once = no_uid items once
no_uid (RootSquash ∷ items) once = no_uid items once

not_nil : {A : Type 0} (x : A) (xs : List A) → x ∷ xs ≡ [] → ⊥
not_nil x xs e = cc

system_only : (items : List Item) → list_all (λ i. not (is_any_name i)) items ≡ true → filter_map uid_in items ≡ [] → filter_map gids_in items ≡ [] → list_all is_system items ≡ true
unfolding is_system
system_only [] named uid gids = refl
system_only (FsName None ∷ items) named uid gids = absurd (true≢false (sym named))
system_only (FsName (Some name) ∷ items) named uid gids = system_only items named uid gids
system_only (Path names ∷ items) named uid gids = system_only items named uid gids
system_only (Uid n ∷ items) named uid gids = absurd (not_nil (Some n) (filter_map uid_in items) uid)
system_only (Gids ns ∷ items) named uid gids = absurd (not_nil ns (filter_map gids_in items) gids)
system_only (RootSquash ∷ items) named uid gids = system_only items named uid gids

in_order : (g : Grant) (items : List Item) → HasCephText g → AreItemsOf items g → first_wrong None items ≡ None → IsInCephOrder items
in_order g items text are none = by_uid g.uid refl
  where
    named : list_all (λ i. not (is_any_name i)) items ≡ true
    named = no_star None items none

    by_uid : (uid : Option ℕ) → g.uid ≡ uid → IsInCephOrder items
    by_uid (Some u) uid =
        let plain = user_has_text g u uid text in
        inr (for_user items (user_only items named (rw plain.0 at are.fsname) (rw plain.1 at are.root_squash)) none)
    by_uid None uid =
        let no_user = no_uid items (rw uid at are.uid) in
        inl (for_system items (system_only items named no_user (are.gids_with_uid no_user)) none)

-- ---- and the other way round

system_reported : (name : Option (List ℕ)) (path : Option (List (List ℕ))) (squash : Bool) → first_wrong None (item_of (λ n. FsName (Some n)) name ++ (item_of Path path ++ squash_items squash)) ≡ None
system_reported None None true = refl
system_reported None None false = refl
system_reported None (Some p) true = refl
system_reported None (Some p) false = refl
system_reported (Some n) None true = refl
system_reported (Some n) None false = refl
system_reported (Some n) (Some p) true = refl
system_reported (Some n) (Some p) false = refl

user_reported : (path : Option (List (List ℕ))) (uid : Option ℕ) (gids : Option (List ℕ)) → first_wrong None (item_of Path path ++ (item_of Uid uid ++ item_of Gids gids)) ≡ None
user_reported None None None = refl
user_reported None None (Some gs) = refl
user_reported None (Some u) None = refl
user_reported None (Some u) (Some gs) = refl
user_reported (Some p) None None = refl
user_reported (Some p) None (Some gs) = refl
user_reported (Some p) (Some u) None = refl
user_reported (Some p) (Some u) (Some gs) = refl

order_reported : (items : List Item) → IsInCephOrder items → first_wrong None items ≡ None
order_reported items (inl order) = ap (first_wrong None) order.3 ∙ system_reported order.0 order.1 order.2
order_reported items (inr order) = ap (first_wrong None) order.3 ∙ user_reported order.0 order.1 order.2

-- ---- with the white space

only_spaces : (spaces : Bool) → (if spaces then None else Some WhiteSpace) ≡ None → spaces ≡ true
only_spaces true none = refl
only_spaces false none = absurd (some_is_not _ none)

pub none_where_read : (g : Grant) (items : List Item) (around : List ℕ) → HasCephText g → AreItemsOf items g → ((why around items ≡ None) ↔ (IsInCephOrder items × IsTrue (are_spaces around)))
none_where_read g items around text are = (there, back)
  where
    there : why around items ≡ None → IsInCephOrder items × IsTrue (are_spaces around)
    there none =
        let both = no_reason (wrong_white around) (first_wrong None items) none in
        (in_order g items text are both.1, only_spaces (are_spaces around) both.0)

    back : IsInCephOrder items × IsTrue (are_spaces around) → why around items ≡ None
    back is = rw is.1 (order_reported items is.0)
