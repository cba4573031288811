-- Texts that read, taken apart.
use Rattle.std.specs.Prelude.{◌≡◌, ℕ, Bool, true, false, Option, Some, List, [], ◌∷◌, codes, refl}
use Rattle.std.proofs.Common.{ap, inl, inr, lit<, lit≤, sym, true≢false}
use Rattle.capspec.specs.declared.flags.Flags4.TheVariants.{R, Rw, Rwps}
use Rattle.capspec.specs.declared.grant.Grant.{Grant}
use Rattle.capspec.specs.Grants.{AreWordsOf, IsGrant, Reads}
use Rattle.capspec.specs.Items.{IsNumber}
use Rattle.capspec.specs.Items.Item.{Gids, Uid}
use Rattle.tests_core.proofs.Faults.{one_is, right_items}
use Rattle.tests_core.specs.Verdicts.{allow}

two_is : IsNumber (codes "2") 2
two_is = record { numeral = (lit< tt, (lit< tt, tt)); value = refl; small = lit< tt }

is_nothing : List (Option ℕ) → Bool
is_nothing [] = true
is_nothing (x ∷ xs) = false

some_is_none : (x : Option ℕ) (xs : List (Option ℕ)) → x ∷ xs ≡ [] → ⊥
unfolding is_nothing
some_is_none x xs e = true≢false (sym (ap is_nothing e))

-- a uid and gids, in a grant
with_uid : Grant
with_uid = record (allow Rw) { uid = Some 1; gids = 1 ∷ 2 ∷ [] }

is_gids_word : AreWordsOf (codes " gids=1,2") (Gids (1 ∷ 2 ∷ []) ∷ [])
is_gids_word = (codes " ", codes "gids=1,2", [], refl, (refl, lit< tt), (codes "1,2", refl, ((codes "1", codes "2", 44, refl, refl, one_is, two_is), lit≤ tt)), refl)

first : IsGrant (codes "allow rw uid=1 gids=1,2") with_uid
unfolding with_uid
first = record {
  before = [];
  gap = codes " ";
  flags = codes "rw";
  words = codes " uid=1 gids=1,2";
  after = [];
  items = Uid 1 ∷ Gids (1 ∷ 2 ∷ []) ∷ [];
  parts = refl;
  blank_before = refl;
  is_gap = (refl, lit< tt);
  are_flags = refl;
  are_words = (codes " ", codes "uid=1", codes " gids=1,2", refl, (refl, lit< tt), (codes "1", refl, one_is), is_gids_word);
  are_items = record { fsname = refl; path = refl; uid = refl; gids = refl; root_squash = refl; gids_with_uid = λ e. absurd (some_is_none _ _ e) };
  blank_after = refl;
}

second : IsGrant (codes "allow r") (allow R)
second = record {
  before = [];
  gap = codes " ";
  flags = codes "r";
  words = [];
  after = [];
  items = [];
  parts = refl;
  blank_before = refl;
  is_gap = (refl, lit< tt);
  are_flags = refl;
  are_words = refl;
  are_items = right_items;
  blank_after = refl;
}

pub reads : Reads (codes "allow rw uid=1 gids=1,2,allow r") (record (allow Rw) { uid = Some 1; gids = 1 ∷ 2 ∷ [] } ∷ allow R ∷ [])
unfolding with_uid
reads = record { are_grants = (codes "allow rw uid=1 gids=1,2", codes "allow r", 44, refl, refl, first, second); few = lit≤ tt }

pub all_flags : Reads (codes "allow *") (allow Rwps ∷ [])
all_flags = record {
  are_grants = record {
    before = [];
    gap = codes " ";
    flags = codes "*";
    words = [];
    after = [];
    items = [];
    parts = refl;
    blank_before = refl;
    is_gap = (refl, lit< tt);
    are_flags = inr (inl refl);
    are_words = refl;
    are_items = record { fsname = refl; path = refl; uid = refl; gids = refl; root_squash = refl; gids_with_uid = λ _. refl };
    blank_after = refl;
  };
  few = lit≤ tt;
}
