-- The order of slots is total, only equal slots tie, and the slots of a directory stand together.
use Rattle.std.proofs.Common.{◌≡◌, ℕ, ◌+◌, ◌^◌, ◌<◌, Bool, true, cond, not, ◌&&◌, nat_le, ◌==◌, List, [], ◌∷◌, ap, refl, ◌∙◌, arith}
use Rattle.std.proofs.lemmas.Bool.Decides.{nat_tests}
use Rattle.std.specs.declared.ops.Bound.TheVariants.{Excluded, Included, Unbounded}
use Rattle.std.specs.BTreeMap.Range.{entries_between}
use Rattle.std.specs.List.{AllByRecursion, filter}
use Rattle.std.specs.declared.cmp.Ordering.{Ordering}
use Rattle.std.specs.declared.cmp.Ordering.TheVariants.{Equal, Greater, Less}
use Rattle.std.specs.Cmp.{IsTotalOrder, nat_cmp_total, on_total, then_total}
use Rattle.std.specs.FinMap as map
use Rattle.std.specs.Ordering.{is_le, nat_cmp, ordering_then}
use Rattle.inotree.specs.declared.index.Slot.{Slot}
use Rattle.inotree.specs.Names.{name_cmp}
use Rattle.inotree.specs.Index.{slot_cmp}
use Rattle.inotree.proofs.Order.{name_same, name_total}

pub slot_total : IsTotalOrder slot_cmp
slot_total = then_total (on_total (λ (s : Slot). s.dir) nat_cmp_total) (on_total (λ (s : Slot). s.name) name_total)

both_equal : (a b : Ordering) → ordering_then a b ≡ Equal → (a ≡ Equal) × (b ≡ Equal)
both_equal Less b e = cc
both_equal Equal b e = (refl, e)
both_equal Greater b e = cc

pub slot_same : map.IsAntisymmetric slot_cmp
slot_same x y e =
    let both = both_equal (nat_cmp x.dir y.dir) (name_cmp x.name y.name) e in
    let dirs : x.dir ≡ y.dir = map.nat_cmp-IsAntisymmetric _ _ both.0 in
    let names : x.name ≡ y.name = name_same _ _ both.1 in
    λ i. record { dir = dirs i; name = names i }

-- the slot without a name comes first in its directory
from_empty : (d : ℕ) (k : Slot) → is_le (slot_cmp (record { dir = d; name = [] }) k) ≡ nat_le d k.dir
from_empty d k = go d k.dir k.name where
  go : (d e : ℕ) (n : List ℕ) → is_le (ordering_then (nat_cmp d e) (name_cmp [] n)) ≡ nat_le d e
  go d e [] = grind (arith, nat_tests)
  go d e (x ∷ xs) = grind (arith, nat_tests)

within_next : (d e : ℕ) → (nat_le d e && not (nat_le (d + 1) e)) ≡ (e == d)
within_next d e = grind (arith, nat_tests)

within_end : (d e : ℕ) → (d + 1 < 2 ^ 64 → ⊥) → e < 2 ^ 64 → (nat_le d e && true) ≡ (e == d)
within_end d e last fits = grind (arith, nat_tests)

kept_alike : (b c : Bool) (e : Slot × ℕ) (es fs : List (Slot × ℕ)) → b ≡ c → es ≡ fs → cond b (e ∷ es) es ≡ cond c (e ∷ fs) fs
kept_alike b c e es fs p q = λ i. cond (p i) (e ∷ q i) (q i)

pub up_to_next : (d next : ℕ) (es : List (Slot × ℕ)) → next ≡ d + 1 → entries_between slot_cmp (Included (record { dir = d; name = [] })) (Excluded (record { dir = next; name = [] })) es ≡ filter (λ e. e.0.dir == d) es
up_to_next d next [] is = refl
up_to_next d next (e ∷ es) is = kept_alike _ _ e _ _ ((λ i. from_empty d e.0 i && not (from_empty next e.0 i)) ∙ ap (λ n. nat_le d e.0.dir && not (nat_le n e.0.dir)) is ∙ within_next d e.0.dir) (up_to_next d next es is)

pub up_to_end : (d : ℕ) (es : List (Slot × ℕ)) → (d + 1 < 2 ^ 64 → ⊥) → AllByRecursion (λ (e : Slot × ℕ). e.0.dir < 2 ^ 64) es → entries_between slot_cmp (Included (record { dir = d; name = [] })) Unbounded es ≡ filter (λ e. e.0.dir == d) es
up_to_end d [] last fits = refl
up_to_end d (e ∷ es) last fits = kept_alike _ _ e _ _ (ap (λ b. b && true) (from_empty d e.0) ∙ within_end d e.0.dir last fits.0) (up_to_end d es last fits.1)
