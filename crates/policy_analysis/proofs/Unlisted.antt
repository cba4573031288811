-- What is not among all gids of some grants is listed by none of them.
use Rattle.std.proofs.Common.{◌≡◌, ℕ, false, Option, Some, None, List, [], ◌∷◌, ◌++◌, sym, ap, ◌∙◌}
use Rattle.std.specs.Prelude.{◌==◌, ◌≢◌}
use Rattle.std.specs.List.{flat_map}
use Rattle.std.specs.Option.{option_to_list}
use Rattle.std.proofs.lemmas.Bool.{both_ways, eq-eqb, or_parts}
use Rattle.std.proofs.lemmas.List.Elements.{All-cons, All-nil}
use Rattle.std.proofs.lemmas.List.Folds.{list_any-append}
use Rattle.capspec.specs.declared.grant.Grant.{Grant}
use Rattle.capgrant.specs.Question.{contains}
use Rattle.policy_analysis.specs.Free.{NoneAreFor, NoneLists, ids_of}

-- all gids that they list
abbrev pub gids_in : List Grant → List ℕ
gids_in grants = flat_map (λ g. g.gids) grants

in_neither : (n : ℕ) (xs ys : List ℕ) → contains (xs ++ ys) n ≡ false → (contains xs n ≡ false) × (contains ys n ≡ false)
in_neither n xs ys none = or_parts (contains xs n) (contains ys n) (sym (list_any-append (λ x. x == n) xs ys) ∙ none)

none_lists : (n : ℕ) (grants : List Grant) → contains (gids_in grants) n ≡ false → NoneLists n grants
none_lists n [] none = All-nil (λ g. contains g.gids n ≡ false)
none_lists n (g ∷ grants) none =
    let parts = in_neither n g.gids (gids_in grants) none in
    All-cons (λ h. contains h.gids n ≡ false) g grants parts.0 (none_lists n grants parts.1)

pub first_of : (n : ℕ) (one other : List Grant) (all : List ℕ) → all ≡ gids_in one ++ gids_in other → contains all n ≡ false → NoneLists n one
first_of n one other all is none = none_lists n one (in_neither n (gids_in one) (gids_in other) (ap (λ (xs : List ℕ). contains xs n) (sym is) ∙ none)).0

pub second_of : (n : ℕ) (one other : List Grant) (all : List ℕ) → all ≡ gids_in one ++ gids_in other → contains all n ≡ false → NoneLists n other
second_of n one other all is none = none_lists n other (in_neither n (gids_in one) (gids_in other) (ap (λ (xs : List ℕ). contains xs n) (sym is) ∙ none)).1

-- ---- with the uids

is_not : (n : ℕ) (uid : Option ℕ) → contains (option_to_list uid) n ≡ false → uid ≢ Some n
is_not n None none same = absurd (cc)
is_not n (Some m) none same =
    let is : m ≡ n = some_same same in
    absurd (both_ways (m == n) (or_parts (m == n) false none).0 (eq-eqb m n is))
  where
    some_same : Some m ≡ Some n → m ≡ n
    some_same e = cc

none_has : (n : ℕ) (grants : List Grant) → contains (flat_map ids_of grants) n ≡ false → NoneLists n grants × NoneAreFor n grants
none_has n [] none = (All-nil (λ g. contains g.gids n ≡ false), All-nil (λ g. g.uid ≢ Some n))
none_has n (g ∷ grants) none =
    let parts = in_neither n (ids_of g) (flat_map ids_of grants) none in
    let here = in_neither n g.gids (option_to_list g.uid) parts.0 in
    let later = none_has n grants parts.1 in
    (All-cons (λ h. contains h.gids n ≡ false) g grants here.0 later.0, All-cons (λ h. h.uid ≢ Some n) g grants (is_not n g.uid here.1) later.1)

pub first_has_not : (n : ℕ) (one other : List Grant) (all : List ℕ) → all ≡ flat_map ids_of one ++ flat_map ids_of other → contains all n ≡ false → NoneLists n one × NoneAreFor n one
first_has_not n one other all is none = none_has n one (in_neither n (flat_map ids_of one) (flat_map ids_of other) (ap (λ (xs : List ℕ). contains xs n) (sym is) ∙ none)).0

pub second_has_not : (n : ℕ) (one other : List Grant) (all : List ℕ) → all ≡ flat_map ids_of one ++ flat_map ids_of other → contains all n ≡ false → NoneLists n other × NoneAreFor n other
second_has_not n one other all is none = none_has n other (in_neither n (flat_map ids_of one) (flat_map ids_of other) (ap (λ (xs : List ℕ). contains xs n) (sym is) ∙ none)).1
