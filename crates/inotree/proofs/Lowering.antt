-- A directory is lowered to what stands in it.
use Rattle.std.proofs.Common.{◌≡◌, ℕ, zero, suc, ◌+◌, ◌-◌, ◌<◌, ◌≤◌, Bool, true, false, ◌&&◌, ◌||◌, ◌==◌, nat_le, cond, List, [], ◌∷◌, ◌++◌, Bor, Option, Some}
use Rattle.std.proofs.Common.{None, inl, inr, refl, sym, ap, subst, ◌∙◌, arith}
use Rattle.std.proofs.Common.{map as each}
use Rattle.std.specs.Prelude.{if◌then◌else◌, unwrap_or}
use Rattle.std.specs.Ordering.{is_lt, nat_cmp, ord_max}
use Rattle.std.proofs.lemmas.Map.Keys.{ge_from_not_lt}
use Rattle.std.proofs.lemmas.Bool.Decides.{nat_tests}
use Rattle.std.proofs.lemmas.List.Folds.{list_any-append}
use Rattle.std.proofs.lemmas.Bool.{or_parts}
use Rattle.std.specs.Cmp.{nat_cmp_total}
use Rattle.std.specs.FinMap as map
use Rattle.std.specs.Map.Iter.{deref_pair}
use Rattle.std.specs.List.{list_any}
use Rattle.capbits.specs.Maps.{change_at}
use Rattle.inotree.specs.declared.index.Slot.{Slot}
use Rattle.inotree.specs.Inodes.{InodeMap}
use Rattle.inotree.specs.Index.{NameIndex, index_descends, names_in}
use Rattle.inotree.specs.Heights.{AreAllKnown, AreNoHigher, HeightMap, HeightsRise, IsHigher, bound, height}
use Rattle.inotree.specs.Tree.{IsIndexed, IsUnder, is_directory}
use Rattle.capbits.proofs.Found.{and_true, any-filter, any-map, any_found}
use Rattle.capbits.proofs.Maps.{change-is, change-none, insert-here}
use Rattle.inotree.proofs.Descending.{descends-step, descends-zero}
use Rattle.inotree.proofs.Descending.{any_found as root_one}
use Rattle.inotree.proofs.Rising.{height_dir, inserted_same}
use Rattle.inotree.proofs.Shape.{same_ino}
use Rattle.inotree.proofs.Slots.{slot_same, slot_total}
use Rattle.inotree.proofs.Walks.{same_test}

-- ---- the greatest height so far

still_low : (n k f g : ℕ) → n ≤ k → g ≤ f → nat_le n f ≡ false → nat_le k g ≡ false
still_low n k f g more less low = grind (arith, nat_tests)

over_low : (below k : ℕ) → below < k → nat_le k below ≡ false
over_low below k less = grind (arith, nat_tests)

less_number : (a b : ℕ) → is_lt (nat_cmp a b) ≡ true → a < b
less_number a b e = grind (arith, nat_tests)

-- the greater of two is none less than either
pub from_max : (a b k : ℕ) → k ≡ ord_max nat_cmp a b → (a ≤ k) × (b ≤ k)
from_max a b k is = go (is_lt (nat_cmp b a)) refl where
  go : (t : Bool) → is_lt (nat_cmp b a) ≡ t → (a ≤ k) × (b ≤ k)
  go true e =
      let first : k ≡ a = is ∙ ap (λ t. cond t a b) e in
      let less : b < a = less_number b a e in
      (omega (arith, first), omega (arith, first, less))
  go false e =
      let second : k ≡ b = is ∙ ap (λ t. cond t a b) e in
      let le : a ≤ b = ge_from_not_lt b a e in
      (omega (arith, second, le), omega (arith, second))

low_number : (n f : ℕ) → nat_le n f ≡ false → f < n
low_number n f low = grind (arith, nat_tests)

module _ {A : Type 0} (f g : A → ℕ) (lower : (x : A) → g x ≤ f x) (n k : ℕ) (more : n ≤ k) where
  none_high : (xs : List A) → list_any (λ x. nat_le n (f x)) xs ≡ false → list_any (λ x. nat_le k (g x)) xs ≡ false
  none_high [] e = refl
  none_high (x ∷ xs) e =
      let parts = or_parts (nat_le n (f x)) (list_any (λ x. nat_le n (f x)) xs) e in
      ap (λ b. b || list_any (λ x. nat_le k (g x)) xs) (still_low n k (f x) (g x) more (lower x) parts.0) ∙ none_high xs parts.1

-- a round of the loop, in which heights may be lowered
pub none_higher : {A : Type 0} (f g : A → ℕ) (n below k : ℕ) (xs : List A) (x : A) → k ≡ ord_max nat_cmp n (below + 1) → below ≡ g x → ((x : A) → g x ≤ f x) → list_any (λ x. nat_le n (f x)) xs ≡ false → list_any (λ x. nat_le k (g x)) (xs ++ x ∷ []) ≡ false
none_higher f g n below k xs x is now lower e =
    let both = from_max n (below + 1) k is in
    let over : below < k = omega (arith, both.1) in
    list_any-append (λ x. nat_le k (g x)) xs (x ∷ []) ∙ ap (λ b. b || (nat_le k (g x) || false)) (none_high f g lower n k both.0 xs e)
    ∙ ap (λ b. b || false) (ap (nat_le k) (sym now) ∙ over_low below k over)

-- behind the loop
pub none_left : (f : ℕ → ℕ) (n : ℕ) (yielded : List (Bor Slot × Bor ℕ)) (items : List (Slot × ℕ)) → each deref_pair yielded ≡ items → list_any (λ p. nat_le n (f p.1.now)) yielded ≡ false → list_any (λ e. nat_le n (f e.1)) items ≡ false
none_left f n yielded items whole none = ap (list_any (λ (e : Slot × ℕ). nat_le n (f e.1))) (sym whole) ∙ any-map (λ (e : Slot × ℕ). nat_le n (f e.1)) deref_pair yielded ∙ none

-- ---- the directory

pub no_change : (m : InodeMap) (heights : HeightMap) → AreNoHigher m heights heights
no_change m heights i = omega arith

both_low : (x y z : ℕ) → y ≤ z → x ≤ y → x ≤ z
both_low x y z p q = omega (arith, p, q)

not_above : (a b c : ℕ) → a ≤ b → b < c → a < c
not_above a b c p q = omega (arith, p, q)

below_it : (a b c : ℕ) → a ≡ b → b < c → a ≤ c
below_it a b c p q = omega (arith, p, q)

as_low : (a b : ℕ) → a ≡ b → a ≤ b
as_low a b p = omega (arith, p)

none_below : (n : ℕ) → n < 0 → ⊥
none_below n e = absurd (omega (arith, e))

pub still_lower : (m : InodeMap) (old mid new : HeightMap) → AreNoHigher m old mid → AreNoHigher m mid new → AreNoHigher m old new
still_lower m old mid new a b i = both_low (height m new i) (height m mid i) (height m old i) (a i) (b i)

module _ (m : InodeMap) (index : NameIndex) (heights : HeightMap) (dir most : ℕ) (x : IsIndexed m index) (rise : HeightsRise m heights) (low : list_any (λ (e : Slot × ℕ). nat_le most (height m heights e.1)) (names_in dir index) ≡ false) (less : most < height m heights dir) where
  -- what stands in it is lower than the greatest
  child_low : (i : ℕ) (a : List ℕ) → IsUnder m i dir a → height m heights i < most
  child_low i a u = go (nat_le most (height m heights i)) refl where
    go : (b : Bool) → nat_le most (height m heights i) ≡ b → height m heights i < most
    go false is = low_number most (height m heights i) is
    go true is =
        let some : list_any (λ (e : Slot × ℕ). nat_le most (height m heights e.1)) (names_in dir index) ≡ true =
        any-filter (λ (e : Slot × ℕ). nat_le most (height m heights e.1)) (λ e. e.0.dir == dir) (map.entries index)
        ∙ any_found slot_total slot_same (λ (e : Slot × ℕ). (e.0.dir == dir) && nat_le most (height m heights e.1)) index (record { dir = dir; name = a }) i (x.taken i dir a u) (and_true _ _ (same_test dir dir refl) is) in
        cc

  kind : is_directory m dir ≡ true
  kind = go (is_directory m dir) refl where
    go : (b : Bool) → is_directory m dir ≡ b → b ≡ true
    go true is = refl
    go false is = let none : height m heights dir ≡ 0 = ap (λ b. if b then bound heights dir else 0) is in absurd (none_below most (subst (λ n. most < n) none less))

  module _ (next : HeightMap) (is : next ≡ map.insert heights dir most) where
    now : height m next dir ≡ most
    now = height_dir m next dir kind ∙ ap (λ h. bound h dir) is ∙ ap (λ o. unwrap_or o 32) (insert-here nat_cmp_total map.nat_cmp-IsAntisymmetric heights dir most)

    same : (i : ℕ) → (i ≡ dir → ⊥) → height m next i ≡ height m heights i
    same i off = ap (λ n. if is_directory m i then n else 0) (inserted_same heights next dir most is i off)

    are-lower : AreNoHigher m heights next
    are-lower i = elim (same_ino i dir) [
      | inl here ↦ subst (λ y. height m next y ≤ height m heights y) (sym here) (below_it (height m next dir) most (height m heights dir) now less)
      | inr off ↦ as_low (height m next i) (height m heights i) (same i off)
    ]

    -- all are still lower than what they stand in
    rise-lowered : HeightsRise m next
    rise-lowered = record {
      higher = λ i d a u. elim (same_ino d dir) [
        | inl in_it ↦
            let v : IsUnder m i dir a = subst (λ y. IsUnder m i y a) in_it u in
            subst (λ y. IsHigher m next y i) (sym in_it) (λ _. subst (λ n. height m next i < n) (sym now) (not_above (height m next i) (height m heights i) most (are-lower i) (child_low i a v)))
        | inr off ↦ λ few.
            let few2 : height m heights d < 32 = subst (λ n. n < 32) (same d off) few in
            subst (λ n. height m next i < n) (sym (same d off)) (not_above (height m next i) (height m heights i) (height m heights d) (are-lower i) (rise.higher i d a u few2))
      ];
    }

  -- as it is set
  pub lowered : (next : HeightMap) → next ≡ change_at (λ _. most) heights dir → HeightsRise m next × AreNoHigher m heights next
  lowered next is = go (map.get heights dir) refl where
    go : (o : Option ℕ) → map.get heights dir ≡ o → HeightsRise m next × AreNoHigher m heights next
    go None none =
        let same : heights ≡ next = sym (is ∙ change-none nat_cmp_total map.nat_cmp-IsAntisymmetric heights dir (λ _. most) none) in
        (subst (λ (h : HeightMap). HeightsRise m h) same rise, subst (λ (h : HeightMap). AreNoHigher m heights h) same (no_change m heights))
    go (Some x) here =
        let new : next ≡ map.insert heights dir most = is ∙ change-is nat_cmp_total map.nat_cmp-IsAntisymmetric heights dir (λ _. most) x here in
        (rise-lowered next new, are-lower next new)

-- ---- where all are known

pub all_known : (m : InodeMap) (old new : HeightMap) → AreNoHigher m old new → AreAllKnown m old → AreAllKnown m new
all_known m old new lower known i = not_above (height m new i) (height m old i) 32 (lower i) (known i)

-- a round of the loop: a child that is low enough raises the greatest no further
pub turn_few : (most below k steps : ℕ) → k ≡ ord_max nat_cmp most (below + 1) → most < steps → below < steps - 1 → k < steps
turn_few most below k steps is less few = go (is_lt (nat_cmp (below + 1) most)) refl where
  go : (t : Bool) → is_lt (nat_cmp (below + 1) most) ≡ t → k < steps
  go true e = let first : k ≡ most = is ∙ ap (λ t. cond t most (below + 1)) e in omega (arith, first, less)
  go false e = let second : k ≡ below + 1 = is ∙ ap (λ t. cond t most (below + 1)) e in omega (arith, second, few)

-- where nothing lies so many steps below a directory, nothing lies one less below what stands in it
pub none_descends : (steps : ℕ) (index : NameIndex) (dir : ℕ) (before rest : List (Slot × ℕ)) (e : Slot × ℕ) → (steps ≡ 0 → ⊥) → names_in dir index ≡ before ++ e ∷ rest
    → index_descends steps index dir ≡ false → index_descends (steps - 1) index e.1 ≡ false
none_descends steps index dir before rest e some parts none = go (index_descends (steps - 1) index e.1) refl where
  go : (b : Bool) → index_descends (steps - 1) index e.1 ≡ b → b ≡ false
  go false is = refl
  go true is =
      let below : Slot × ℕ → Bool = λ e. index_descends (steps - 1) index e.1 in
      let descended : index_descends steps index dir ≡ true = descends-step steps index dir some ∙ ap (list_any below) parts ∙ root_one below before rest e is in
      sym descended ∙ none

-- and with that it is set to less
module _ (m : InodeMap) (heights : HeightMap) (dir most steps : ℕ) (known : AreAllKnown m heights) (less : most < height m heights dir) (few : most < steps) where
  pub set_few : (next : HeightMap) → next ≡ change_at (λ _. most) heights dir → height m next dir < steps
  set_few next is = go (is_directory m dir) refl (map.get heights dir) refl where
    go : (b : Bool) → is_directory m dir ≡ b → (o : Option ℕ) → map.get heights dir ≡ o → height m next dir < steps
    go false file o here = subst (λ b. (if b then bound next dir else 0) < steps) (sym file) (omega (arith, few))
    go true directory None none =
        let unknown : height m heights dir ≡ 32 = height_dir m heights dir directory ∙ ap (λ o. unwrap_or o 32) none in
        absurd (omega (arith, unknown, known dir))
    go true directory (Some x) here =
        let new : next ≡ map.insert heights dir most = is ∙ change-is nat_cmp_total map.nat_cmp-IsAntisymmetric heights dir (λ _. most) x here in
        let now : height m next dir ≡ most =
        height_dir m next dir directory ∙ ap (λ h. bound h dir) new ∙ ap (λ o. unwrap_or o 32) (insert-here nat_cmp_total map.nat_cmp-IsAntisymmetric heights dir most) in
        omega (arith, now, few)

-- below a file lies nothing
pub file_few : (m : InodeMap) (heights : HeightMap) (index : NameIndex) (ino steps : ℕ) → is_directory m ino ≡ false → index_descends steps index ino ≡ false → height m heights ino < steps
file_few m heights index ino zero file none = let descended : index_descends 0 index ino ≡ true = descends-zero 0 index ino refl in absurd (cc)
file_few m heights index ino (suc n) file none = subst (λ b. (if b then bound heights ino else 0) < suc n) (sym file) (omega arith)
