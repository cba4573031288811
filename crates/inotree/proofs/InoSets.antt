-- Sets of inodes: what the numbers of a tree set say of the set that they make, the least from a number on, and one inode beside
-- others.
use Rattle.std.proofs.Common.{◌≡◌, ◌≢◌, ℕ, ◌<◌, ◌≤◌, ◌+◌, ◌==◌, Option, Some, None, ◌⊎◌, inl, inr, Bool, true, false, cond, ◌||◌, List, [], ◌∷◌, Result, Ok}
use Rattle.std.proofs.Common.{Err, OnOk, OnErr, refl, sym, ap, ◌∙◌, arith}
use Rattle.std.proofs.Math.Bool.{or-true}
use Rattle.std.proofs.lemmas.Bool.{eq-eqb, eqb-false, eqb-true, ne_eqb, or_parts}
use Rattle.std.specs.declared.cmp.Ordering.TheVariants.{Equal, Greater, Less}
use Rattle.std.specs.declared.ops.Bound.{Bound}
use Rattle.std.specs.declared.ops.Bound.TheVariants.{Excluded, Included, Unbounded}
use Rattle.std.specs.BTreeMap.Range.{IsInRange}
use Rattle.std.specs.BTreeSet as btree
use Rattle.std.specs.BTreeSet.{BTreeSet, IsKeyRangeOf}
use Rattle.std.specs.Cmp.{eq_by_cmp_equiv, nat_cmp_total, ranked, unsigned_tied}
use Rattle.std.specs.FinSet as set
use Rattle.std.specs.List.{AllByRecursion, list_any}
use Rattle.std.specs.List.Sorted.{IsStrictlySortedBy}
use Rattle.std.specs.Ordering.{eq_by_cmp, is_gt, nat_cmp}
use Rattle.std.proofs.lemmas.Map.Keys.{IsDistinct-cons, IsDistinct-from_sorted, le_from_not_gt}
use Rattle.capbits.specs.declared.ids.Ino.{Ino}
use Rattle.inotree.specs.InoSets.{InoSet, IsLeastFrom, IsListOf, IsNext}

-- ---- its numbers

-- numbers in order are those of the set that they make
pub listed : (ks : List ℕ) (inos : InoSet) → set.from_list {R = nat_cmp} ks ≡ inos → IsStrictlySortedBy nat_cmp ks → IsListOf inos ks
listed ks inos is sorted = record {
  among = λ k. ap (λ (s : InoSet). set.contains s k) (sym is) ∙ set.contains-from_list nat_cmp_total ks k;
  once = IsDistinct-from_sorted nat_cmp ks sorted;
}

-- ---- the least from a number on, or behind it

not_gt : (a b : ℕ) → a ≤ b → is_gt (nat_cmp a b) ≡ false
not_gt a b h = elim (nat_cmp a b) as (λ r. r ≡ nat_cmp a b → is_gt r ≡ false) [
  | Less ↦ λ is. refl
  | Equal ↦ λ is. refl
  | Greater ↦ λ is. (let above : b < a = ranked a b Greater is in absurd (omega arith))
] refl

lt : (a b : ℕ) → a < b → nat_cmp a b ≡ Less
lt a b h = elim (nat_cmp a b) as (λ r. r ≡ nat_cmp a b → r ≡ Less) [
  | Less ↦ λ is. refl
  | Equal ↦ λ is. (let same : a ≡ b = ranked a b Equal is in absurd (omega (arith, h, same)))
  | Greater ↦ λ is. (let above : b < a = ranked a b Greater is in absurd (omega (arith, h, above)))
] refl

from_lt : (a b : ℕ) → nat_cmp a b ≡ Less → a < b
from_lt a b is = ranked a b Less (sym is)

-- a number lies within the bound exactly if it is at least another
pub record Begins (low : Bound ℕ) (from : ℕ) : Type 0 where
  pub inside : (k : ℕ) → from ≤ k → IsInRange nat_cmp low Unbounded k
  pub not_below : (k : ℕ) → IsInRange nat_cmp low Unbounded k → from ≤ k

pub begins-at : (from : ℕ) → Begins (Included from) from
begins-at from = record { inside = λ k h. (not_gt from k h, tt); not_below = λ k in_range. le_from_not_gt from k in_range.0 }

pub begins-behind : (from : ℕ) → Begins (Excluded from) (from + 1)
begins-behind from = record {
  inside = λ k h. (lt from k (omega (arith, h)), tt);
  not_below = λ k in_range. (let less = from_lt from k in_range.0 in omega (arith, less));
}

module _ (s : BTreeSet ℕ) (inos : InoSet) (is : set.from_list {R = nat_cmp} s.keys ≡ inos) (low : Bound ℕ) (from : ℕ) (begins : Begins low from) where
  at_key : (k : ℕ) → set.contains inos k ≡ btree.contains nat_cmp s k
  at_key k = ap (λ (t : InoSet). set.contains t k) (sym is) ∙ set.contains-from_list nat_cmp_total s.keys k

  -- where nothing lies within the bound, there is none
  pub none-from : IsKeyRangeOf nat_cmp low Unbounded s [] → (k : ℕ) → from ≤ k → set.contains inos k ≡ false
  none-from range k h = at_key k ∙ range.5 refl k (begins.inside k h)

  -- the first that lies there is the least
  pub least-from : (e : ℕ) (rest : List ℕ) → IsKeyRangeOf nat_cmp low Unbounded s (e ∷ rest) → IsLeastFrom inos from e
  least-from e rest range = record {
    has = at_key e ∙ range.1.1;
    not_below = begins.not_below e range.1.0;
    least = λ k h less. at_key k ∙ nothing k h less (btree.contains nat_cmp s k) refl;
  }
    where
      nothing : (k : ℕ) → from ≤ k → k < e → (b : Bool) → btree.contains nat_cmp s k ≡ b → b ≡ false
      nothing k h less false found = refl
      nothing k h less true found =
          let above = le_from_not_gt e k (range.2 k (begins.inside k h) found) in
          absurd (omega (arith, above))

-- ---- numbers that are equal

differ : (a b : ℕ) → a ≢ b → eq_by_cmp nat_cmp a b ≡ false
differ a b apart = unsigned_tied a b ∙ ne_eqb a b apart

itself : (a : ℕ) → eq_by_cmp nat_cmp a a ≡ true
itself a = (eq_by_cmp_equiv nat_cmp_total).refl a

-- ---- one beside others

module _ (others : InoSet) (one : ℕ) (inos : InoSet) (is : set.insert others one ≡ inos) where
  pub at-beside : (k : ℕ) → set.contains inos k ≡ (eq_by_cmp nat_cmp k one || set.contains others k)
  at-beside k = ap (λ (s : InoSet). set.contains s k) (sym is) ∙ set.contains-insert nat_cmp_total others one k

  other_there : (k : ℕ) → set.contains others k ≡ true → set.contains inos k ≡ true
  other_there k there = at-beside k ∙ ap (λ b. eq_by_cmp nat_cmp k one || b) there ∙ or-true (eq_by_cmp nat_cmp k one)

  neither : (k : ℕ) → k ≢ one → set.contains others k ≡ false → set.contains inos k ≡ false
  neither k apart none = at-beside k ∙ (λ i. differ k one apart i || none i)

  -- the least of the others is the least of all, where the one lies too low or behind it
  pub least-other : (from e : ℕ) → (one < from) ⊎ (e ≤ one) → IsLeastFrom others from e → IsLeastFrom inos from e
  least-other from e before next = record {
    has = other_there e next.has;
    not_below = next.not_below;
    least = λ k h less. neither k (λ same. not_one k h less same before) (next.least k h less);
  }
    where
      not_one : (k : ℕ) → from ≤ k → k < e → k ≡ one → (one < from) ⊎ (e ≤ one) → ⊥
      not_one k h less same (inl low) = omega (arith, h, less, same, low)
      not_one k h less same (inr high) = omega (arith, h, less, same, high)

  -- else the one is
  pub least-one : (from : ℕ) → from ≤ one → ((k : ℕ) → from ≤ k → k < one → set.contains others k ≡ false) → IsLeastFrom inos from one
  least-one from not_below none = record {
    has = at-beside one ∙ ap (λ b. b || set.contains others one) (itself one);
    not_below = not_below;
    least = λ k h less. neither k (λ same. omega (arith, less, same)) (none k h less);
  }

  -- the one lies too low
  pub next-others : (from : ℕ) (r : Option Ino) → one < from → IsNext others from r → IsNext inos from r
  next-others from None low none = λ k h. neither k (λ same. omega (arith, low, h, same)) (none k h)
  next-others from (Some other) low next = least-other from other.0 (inl low) next

  -- the one is in already
  pub insert-one : inos ≡ set.insert inos one
  insert-one = set.same_set nat_cmp_total set.nat_cmp-IsAntisymmetric inos (set.insert inos one) (λ k. by_test k (eq_by_cmp nat_cmp k one) refl ∙ sym (set.contains-insert nat_cmp_total inos one k))
    where
      by_test : (k : ℕ) (t : Bool) → eq_by_cmp nat_cmp k one ≡ t → set.contains inos k ≡ (eq_by_cmp nat_cmp k one || set.contains inos k)
      by_test k true tied = at-beside k ∙ (λ i. tied i || set.contains others k) ∙ sym (ap (λ b. b || set.contains inos k) tied)
      by_test k false tied = sym (ap (λ b. b || set.contains inos k) tied)

  -- one more beside it
  insert_other : (k : ℕ) → set.insert (set.insert others k) one ≡ set.insert inos k
  insert_other k = set.same_set nat_cmp_total set.nat_cmp-IsAntisymmetric (set.insert (set.insert others k) one) (set.insert inos k) same
    where
      swapped : (a b c : Bool) → (a || (b || c)) ≡ (b || (a || c))
      swapped true true c = refl
      swapped true false c = refl
      swapped false b c = refl

      same : (q : ℕ) → set.contains (set.insert (set.insert others k) one) q ≡ set.contains (set.insert inos k) q
      same q =
          set.contains-insert nat_cmp_total (set.insert others k) one q
          ∙ ap (λ b. eq_by_cmp nat_cmp q one || b) (set.contains-insert nat_cmp_total others k q)
          ∙ swapped (eq_by_cmp nat_cmp q one) (eq_by_cmp nat_cmp q k) (set.contains others q)
          ∙ sym (ap (λ b. eq_by_cmp nat_cmp q k || b) (at-beside q))
          ∙ sym (set.contains-insert nat_cmp_total inos k q)

  pub insert-tried : {A E : Type 0} (k : ℕ) (more : InoSet) (r : Result A E) → OnOk r (more ≡ set.insert others k) → OnOk r (set.insert more one ≡ set.insert inos k)
  insert-tried k more (Ok x) ok = ap (λ (s : InoSet). set.insert s one) ok ∙ insert_other k
  insert-tried k more (Err e) ok = tt

  module _ (apart : set.contains others one ≡ false) where
    pub len-beside : set.len inos ≡ set.len others + 1
    len-beside = ap set.len (sym is) ∙ set.len-insert nat_cmp_total others one ∙ ap (λ b. cond b (set.len others) (set.len others + 1)) apart

    pub single-beside : (set.len others == 0) ≡ (set.len inos == 1)
    single-beside = one_more (set.len others) ∙ ap (λ n. n == 1) (sym len-beside)
      where
        one_more : (n : ℕ) → (n == 0) ≡ (n + 1 == 1)
        one_more n = by_test (n == 0) refl
          where
            by_test : (b : Bool) → (n == 0) ≡ b → (n == 0) ≡ (n + 1 == 1)
            by_test true is = (let none = eqb-true n 0 is in is ∙ sym (eq-eqb (n + 1) 1 (omega (arith, none))))
            by_test false is = is ∙ sym (ne_eqb (n + 1) 1 (λ same. eqb-false n 0 is (omega (arith, same))))

    -- before the numbers of the others it makes those of all
    pub listed-beside : (numbers : List ℕ) → IsListOf others numbers → IsListOf inos (one ∷ numbers)
    listed-beside numbers list = record {
      among = λ k. at-beside k ∙ ap (λ b. eq_by_cmp nat_cmp k one || b) (list.among k);
      once = IsDistinct-cons (eq_by_cmp nat_cmp) one numbers (no_other numbers (sym (list.among one) ∙ apart)) list.once;
    }
      where
        no_other : (ns : List ℕ) → list_any (eq_by_cmp nat_cmp one) ns ≡ false → AllByRecursion (λ n. eq_by_cmp nat_cmp one n ≡ false) ns
        no_other [] none = tt
        no_other (n ∷ ns) none = (let both = or_parts (eq_by_cmp nat_cmp one n) (list_any (eq_by_cmp nat_cmp one) ns) none in (both.0, no_other ns both.1))

-- the one is not among the others, whether or not there was memory for another
pub apart-tried : {A E : Type 0} (others more : InoSet) (one k : ℕ) (r : Result A E) → k ≢ one → OnOk r (more ≡ set.insert others k) → OnErr r (more ≡ others) → set.contains others one ≡ false → set.contains more one ≡ false
apart-tried others more one k (Ok x) apart ok err none = ap (λ (s : InoSet). set.contains s one) ok ∙ set.contains-insert nat_cmp_total others k one ∙ (λ i. differ one k (λ same. apart (sym same)) i || none i)
apart-tried others more one k (Err e) apart ok err none = ap (λ (s : InoSet). set.contains s one) err ∙ none
