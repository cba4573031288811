-- Which grants have their items in an order that Ceph 16 reads.
use Rattle.std.proofs.Common.{◌≡◌, ℕ, Bool, true, false, inl, inr, Option, Some, None, List, [], ◌∷◌, ◌++◌, refl, sym, ap, ◌∙◌, arith}
use Rattle.std.proofs.lemmas.Bool.{eqb-true}
use Rattle.std.specs.Prelude.{◌==◌, not, is_some, length, filter_map, IsTrue, if◌then◌else◌}
use Rattle.capspec.specs.declared.grant.Grant.{Grant}
use Rattle.capspec.specs.Items.{Item}
use Rattle.capspec.specs.Items.Item.{FsName, Gids, Path, RootSquash, Uid}
use Rattle.capspec.specs.Grants.{AreItemsOf, IsSaidOnce, fsname_in, gids_in, root_squash_in, uid_in}
use Rattle.policy_analysis.specs.CephOrder.{IsForFileSystem, IsForUser, item_of}
use Rattle.policy_analysis.specs.Linting.{HasCephText}

-- ---- what the items of each order say nothing of

system_items : Option (List ℕ) → Option (List (List ℕ)) → Bool → List Item
system_items name path squash = item_of (λ n. FsName (Some n)) name ++ (item_of Path path ++ (if squash then RootSquash ∷ [] else []))

no_user : (name : Option (List ℕ)) (path : Option (List (List ℕ))) (squash : Bool) → (filter_map uid_in (system_items name path squash) ≡ []) × (filter_map gids_in (system_items name path squash) ≡ [])
unfolding system_items
no_user None None true = (refl, refl)
no_user None None false = (refl, refl)
no_user None (Some p) true = (refl, refl)
no_user None (Some p) false = (refl, refl)
no_user (Some n) None true = (refl, refl)
no_user (Some n) None false = (refl, refl)
no_user (Some n) (Some p) true = (refl, refl)
no_user (Some n) (Some p) false = (refl, refl)

user_items : Option (List (List ℕ)) → Option ℕ → Option (List ℕ) → List Item
user_items path uid gids = item_of Path path ++ (item_of Uid uid ++ item_of Gids gids)

no_system : (path : Option (List (List ℕ))) (uid : Option ℕ) (gids : Option (List ℕ)) → (filter_map fsname_in (user_items path uid gids) ≡ []) × (filter_map root_squash_in (user_items path uid gids) ≡ [])
unfolding user_items
no_system None None None = (refl, refl)
no_system None None (Some gs) = (refl, refl)
no_system None (Some u) None = (refl, refl)
no_system None (Some u) (Some gs) = (refl, refl)
no_system (Some p) None None = (refl, refl)
no_system (Some p) None (Some gs) = (refl, refl)
no_system (Some p) (Some u) None = (refl, refl)
no_system (Some p) (Some u) (Some gs) = (refl, refl)

-- and what the second says of the user
abbrev otherwise_of : Option ℕ → List (Option ℕ)
otherwise_of None = []
otherwise_of (Some u) = Some u ∷ []

says_uid : (path : Option (List (List ℕ))) (uid : Option ℕ) (gids : Option (List ℕ)) → filter_map uid_in (item_of Path path ++ (item_of Uid uid ++ item_of Gids gids)) ≡ otherwise_of uid
says_uid None None None = refl
says_uid None None (Some gs) = refl
says_uid None (Some u) None = refl
says_uid None (Some u) (Some gs) = refl
says_uid (Some p) None None = refl
says_uid (Some p) None (Some gs) = refl
says_uid (Some p) (Some u) None = refl
says_uid (Some p) (Some u) (Some gs) = refl

-- what no item speaks of has its default
unsaid : {A : Type 0} (default field : A) (said : List A) → said ≡ [] → IsSaidOnce default said field → field ≡ default
unsaid default field said none once = rw none at once

-- ---- a grant with such items

pub for_file_system : (g : Grant) (items : List Item) → IsForFileSystem items → AreItemsOf items g → (g.uid ≡ None) × (g.gids ≡ [])
unfolding system_items
for_file_system g items order are =
    let none = no_user order.0 order.1 order.2 in
    (unsaid None g.uid (filter_map uid_in items) (ap (filter_map uid_in) order.3 ∙ none.0) are.uid, unsaid [] g.gids (filter_map gids_in items) (ap (filter_map gids_in) order.3 ∙ none.1) are.gids)

pub for_user : (g : Grant) (items : List Item) → IsForUser items → AreItemsOf items g → (g.fsname ≡ None) × (g.root_squash ≡ false)
unfolding user_items
for_user g items order are =
    let none = no_system order.0 order.1 order.2 in
    (unsaid None g.fsname (filter_map fsname_in items) (ap (filter_map fsname_in) order.3 ∙ none.0) are.fsname, unsaid false g.root_squash (filter_map root_squash_in items) (ap (filter_map root_squash_in) order.3 ∙ none.1) are.root_squash)

-- a grant with a user has a text where it has neither a file system nor root_squash
pub user_text : (g : Grant) (u : ℕ) → g.uid ≡ Some u → g.fsname ≡ None → g.root_squash ≡ false → HasCephText g
user_text g u uid name squash = (
  Path g.path ∷ Uid u ∷ Gids g.gids ∷ [],
  inr (Some g.path, Some u, Some g.gids, refl),
  record {
    fsname = name;
    path = refl;
    uid = uid;
    gids = refl;
    root_squash = squash;
    gids_with_uid = λ none. absurd (cc);
  },
)

-- and one without a user where it lists no gids
pub system_text : (g : Grant) → g.uid ≡ None → g.gids ≡ [] → HasCephText g
system_text g uid gids = by_case g.fsname g.root_squash refl refl
  where
    by_case : (name : Option (List ℕ)) (squash : Bool) → g.fsname ≡ name → g.root_squash ≡ squash → HasCephText g
    by_case None true name squash = (Path g.path ∷ RootSquash ∷ [], inl (None, Some g.path, true, refl), record { fsname = name; path = refl; uid = uid; gids = gids; root_squash = squash; gids_with_uid = λ none. refl })
    by_case None false name squash = (Path g.path ∷ [], inl (None, Some g.path, false, refl), record { fsname = name; path = refl; uid = uid; gids = gids; root_squash = squash; gids_with_uid = λ none. refl })
    by_case (Some n) true name squash = (FsName (Some n) ∷ Path g.path ∷ RootSquash ∷ [], inl (Some n, Some g.path, true, refl), record { fsname = name; path = refl; uid = uid; gids = gids; root_squash = squash; gids_with_uid = λ none. refl })
    by_case (Some n) false name squash = (FsName (Some n) ∷ Path g.path ∷ [], inl (Some n, Some g.path, false, refl), record { fsname = name; path = refl; uid = uid; gids = gids; root_squash = squash; gids_with_uid = λ none. refl })

-- ---- and the other way round

pub user_has_text : (g : Grant) (u : ℕ) → g.uid ≡ Some u → HasCephText g → (g.fsname ≡ None) × (g.root_squash ≡ false)
user_has_text g u uid (items, inl order, are) = absurd (never (sym uid ∙ (for_file_system g items order are).0))
  where
    never : Some u ≡ None → ⊥
    never e = cc
user_has_text g u uid (items, inr order, are) = for_user g items order are

-- a grant without a user lists no gids, whatever the order of its items
pub no_user_no_gids : (g : Grant) → g.uid ≡ None → HasCephText g → g.gids ≡ []
no_user_no_gids g uid (items, inl order, are) = (for_file_system g items order are).1
no_user_no_gids g uid (items, inr order, are) = by_uid order.1 refl
  where
    said : (o : Option ℕ) → order.1 ≡ o → filter_map uid_in items ≡ otherwise_of o
    said o is = ap (filter_map uid_in) order.3 ∙ says_uid order.0 order.1 order.2 ∙ ap otherwise_of is

    by_uid : (o : Option ℕ) → order.1 ≡ o → g.gids ≡ []
    by_uid None is = unsaid [] g.gids (filter_map gids_in items) (are.gids_with_uid (said None is)) are.gids
    by_uid (Some u) is = absurd (never (sym uid ∙ (rw (said (Some u) is) at are.uid)))
      where
        never : None ≡ Some u → ⊥
        never e = cc

-- ---- by the tests of the engine

no_name : (o : Option (List ℕ)) (none : Bool) → is_some o ≡ not none → none ≡ true → o ≡ None
no_name None none is e = refl
no_name (Some n) true is e = absurd (cc)
no_name (Some n) false is e = absurd (cc)

pub by_squash : (g : Grant) (u : ℕ) (none : Bool) → g.uid ≡ Some u → is_some g.fsname ≡ not none → none ≡ true → (IsTrue (not g.root_squash) → HasCephText g) × (HasCephText g → IsTrue (not g.root_squash))
by_squash g u none uid is unnamed = ((λ plain. user_text g u uid (no_name g.fsname none is unnamed) (is_false g.root_squash plain)), (λ text. ap not (user_has_text g u uid text).1))
  where
    is_false : (b : Bool) → not b ≡ true → b ≡ false
    is_false true e = absurd (cc)
    is_false false e = refl

no_gids : (gids : List ℕ) → (length gids == 0) ≡ true → gids ≡ []
no_gids [] is = refl
no_gids (gid ∷ gids) is =
    let none : length (gid ∷ gids) ≡ 0 = eqb-true (length (gid ∷ gids)) 0 is in
    absurd (omega arith)

pub by_gids : (g : Grant) (b : Bool) → g.uid ≡ None → b ≡ (length g.gids == 0) → (IsTrue b → HasCephText g) × (HasCephText g → IsTrue b)
by_gids g b uid is = ((λ none. system_text g uid (no_gids g.gids (sym is ∙ none))), (λ text. is ∙ ap (λ (gids : List ℕ). length gids == 0) (no_user_no_gids g uid text)))
