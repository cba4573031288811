-- What a walk down the index gathers is what lies within the inode at which it begins.
use Rattle.std.proofs.Common.{◌≡◌, ℕ, ◌-◌, ◌≤◌, ◌&&◌, ◌||◌, ◌==◌, suc, zero, Bool, true, false, List, [], ◌∷◌, ◌++◌, length, get_or, All, Contains, refl, sym}
use Rattle.std.proofs.Common.{ap, subst, ◌∙◌, arith}
use Rattle.std.specs.FinMap as map
use Rattle.std.specs.List.{flat_map, list_any}
use Rattle.std.proofs.lemmas.List.Elements.{All-contains_itself, recursion_from_All}
use Rattle.std.proofs.lemmas.List.Folds.{list_any-append, list_any_at}
use Rattle.std.proofs.lemmas.Bool.{or_left, or_right}
use Rattle.capbits.specs.declared.ids.Ino.{Ino}
use Rattle.inotree.specs.declared.index.Slot.{Slot}
use Rattle.inotree.specs.Inodes.{InodeMap}
use Rattle.inotree.specs.Index.{NameIndex, gathered, names_in}
use Rattle.inotree.specs.Tree.{Climbs, IsIndexed, IsTree, IsUnder, Nodes, is_within}
use Rattle.capbits.proofs.Found.{and_true, any-filter, any_found, any_some, both_true, found}
use Rattle.inotree.proofs.Growing.{last_step}
use Rattle.inotree.proofs.Shape.{climb_on}
use Rattle.inotree.proofs.Slots.{slot_same, slot_total}
use Rattle.inotree.proofs.Walks.{same_test, test_same}
use Rattle.inotree.proofs.Within.{climb_fits, within-climbs}

-- ---- step by step

pub gathered-none : (n : ℕ) (index : NameIndex) (ino : ℕ) → n ≡ 0 → gathered n index ino ≡ record { 0 = ino } ∷ []
unfolding gathered
gathered-none n index ino e = ap (λ k. gathered k index ino) e

pub gathered-step : (n : ℕ) (index : NameIndex) (ino : ℕ) → (n ≡ 0 → ⊥) → gathered n index ino ≡ record { 0 = ino } ∷ flat_map (λ e. gathered (n - 1) index e.1) (names_in ino index)
unfolding gathered
gathered-step zero index ino h = absurd (h refl)
gathered-step (suc n) index ino h = let e : suc n - 1 ≡ n = omega arith in ap (λ k. record { 0 = ino } ∷ flat_map (λ e. gathered k index e.1) (names_in ino index)) (sym e)

-- ---- whether an inode is among those that are gathered

abbrev has : ℕ → List Ino → Bool
has k inos = list_any (λ i. i.0 == k) inos

contains_of : (k : ℕ) (inos : List Ino) → has k inos ≡ true → Contains inos (record { 0 = k })
contains_of k inos e =
    let at = any_some {P = Contains inos} (λ i. i.0 == k) inos (recursion_from_All (Contains inos) inos (All-contains_itself inos)) e in
    let same : at.0.0 ≡ k = test_same at.0.0 k at.2 in
    subst (λ j. Contains inos (record { 0 = j })) same at.1

any_flat : {A : Type 0} (k : ℕ) (f : A → List Ino) (xs : List A) → has k (flat_map f xs) ≡ list_any (λ x. has k (f x)) xs
any_flat k f [] = refl
any_flat k f (x ∷ xs) = list_any-append (λ (i : Ino). i.0 == k) (f x) (flat_map f xs) ∙ ap (λ b. has k (f x) || b) (any_flat k f xs)

has-step : (n : ℕ) (index : NameIndex) (k i : ℕ) → has k (gathered (suc n) index i) ≡ ((i == k) || list_any (λ e. (e.0.dir == i) && has k (gathered n index e.1)) (map.entries index))
unfolding gathered
has-step n index k i = ap (λ b. (i == k) || b) (any_flat k (λ (e : Slot × ℕ). gathered n index e.1) (names_in i index) ∙ any-filter (λ (e : Slot × ℕ). has k (gathered n index e.1)) (λ e. e.0.dir == i) (map.entries index))

has-itself : (n : ℕ) (index : NameIndex) (k i : ℕ) → i ≡ k → has k (gathered n index i) ≡ true
unfolding gathered
has-itself zero index k i e = or_left (i == k) _ (same_test i k e)
has-itself (suc n) index k i e = or_left (i == k) _ (same_test i k e)

module _ (m : InodeMap) (index : NameIndex) (x : IsIndexed m index) where
  -- what climbs so far is gathered
  gathers : (n : ℕ) (up : List (List ℕ)) (k i : ℕ) → length up ≤ n → Climbs m k up i → has k (gathered n index i) ≡ true
  gathers n [] k i fits c = has-itself n index k i (sym c)
  gathers zero (a ∷ up) k i fits c = absurd (omega arith)
  gathers (suc n) (a ∷ up) k i fits c =
      let r = last_step m k a up i c in
      let deeper : has k (gathered n index r.0) ≡ true = gathers n r.2 k r.0 (omega (arith, r.5)) r.4 in
      has-step n index k i
      ∙ or_right (i == k) _ (any_found slot_total slot_same (λ (e : Slot × ℕ). (e.0.dir == i) && has k (gathered n index e.1)) index (record { dir = i; name = r.1 }) r.0 (x.taken r.0 i r.1 r.3)
      (and_true _ _ (same_test i i refl) deeper))

  single : (b : Bool) → (b || false) ≡ true → b ≡ true
  single true e = refl
  single false e = cc

  here_or_below : (n k i : ℕ) → ((j : ℕ) → has k (gathered n index j) ≡ true → (up : List (List ℕ)) × Climbs m k up j)
      → (b : Bool) → (i == k) ≡ b → (b || list_any (λ e. (e.0.dir == i) && has k (gathered n index e.1)) (map.entries index)) ≡ true → (up : List (List ℕ)) × Climbs m k up i
  here_or_below n k i further true is s = ([], sym (test_same i k is))
  here_or_below n k i further false is s =
      let at = any_some (λ (e : Slot × ℕ). (e.0.dir == i) && has k (gathered n index e.1)) (map.entries index) (found slot_total slot_same index) s in
      let parts = both_true _ _ at.2 in
      let dir : at.0.0.dir ≡ i = test_same at.0.0.dir i parts.0 in
      let u : IsUnder m at.0.1 i at.0.0.name = subst (λ d. IsUnder m at.0.1 d at.0.0.name) dir (x.real at.0.1 at.0.0.dir at.0.0.name at.1) in
      let rest = further at.0.1 parts.1 in
      (rest.0 ++ at.0.0.name ∷ [], climb_on m k rest.0 at.0.1 (at.0.0.name ∷ []) i rest.1 (i, u, refl))

  -- what is gathered climbs back
  climbs_back : (n k i : ℕ) → has k (gathered n index i) ≡ true → (up : List (List ℕ)) × Climbs m k up i
  climbs_back zero k i e = ([], sym (test_same i k (single (i == k) (ap (has k) (sym (gathered-none 0 index i refl)) ∙ e))))
  climbs_back (suc n) k i e = here_or_below n k i (climbs_back n k) (i == k) refl (sym (has-step n index k i) ∙ e)

module _ (t : Nodes) (tree : IsTree t) (index : NameIndex) (x : IsIndexed t.nodes index) (i : ℕ) where
  pub all-gathered : (other : ℕ) → is_within t.nodes other i ≡ true → Contains (gathered 32 index i) (record { 0 = other })
  all-gathered other within =
      let c = (within-climbs t other i tree).0 within in
      contains_of other (gathered 32 index i) (gathers t.nodes index x 32 c.0 other i (climb_fits t tree c.0 other i c.1) c.1)

  pub only-gathered : All (λ (other : Ino). is_within t.nodes other.0 i ≡ true) (gathered 32 index i)
  only-gathered k d below =
      let other : Ino = get_or (gathered 32 index i) k d in
      (within-climbs t other.0 i tree).1 (climbs_back t.nodes index x 32 other.0 i (list_any_at (λ (j : Ino). j.0 == other.0) (gathered 32 index i) k d below (same_test other.0 other.0 refl)))
