-- What maps and sets of numbers answer.
use Rattle.std.specs.Prelude.{◌≡◌, ◌||◌, ◌&&◌, ◌+◌, ◌-◌, ℕ, false, not, cond, Some, None, List, [], ◌∷◌, length, refl}
use Rattle.std.specs.Cmp.{nat_cmp_total}
use Rattle.std.specs.FinMap as map
use Rattle.std.specs.FinMap.{FinMap, entries-insert, get-empty, get-entries, get-insert, get-remove, len-empty, len-entries, len-insert, len-remove}
use Rattle.std.specs.FinSet as set
use Rattle.std.specs.FinSet.{FinSet, contains-empty, contains-insert, contains-remove}
use Rattle.std.specs.Ordering.{eq_by_cmp, nat_cmp}
use Rattle.std.proofs.Common.{arith, sym, ◌∙◌}

-- ---- the value at a number

pub get-none : {X : Type 0} (q : ℕ) → map.get {X = X} {R = nat_cmp} map.empty q ≡ None
get-none q = get-empty nat_cmp q

pub get-more : {X : Type 0} (m : FinMap nat_cmp X) (k : ℕ) (v : X) (q : ℕ) → map.get (map.insert m k v) q ≡ cond (eq_by_cmp nat_cmp q k) (Some v) (map.get m q)
get-more m k v q = get-insert nat_cmp_total m k v q

pub get-less : {X : Type 0} (m : FinMap nat_cmp X) (k q : ℕ) → map.get (map.remove m k) q ≡ cond (eq_by_cmp nat_cmp q k) None (map.get m q)
get-less m k q = get-remove nat_cmp_total m k q

pub get-found : {X : Type 0} (m : FinMap nat_cmp X) (q : ℕ) → map.get m q ≡ map.find nat_cmp q (map.entries m)
get-found m q = get-entries m q

-- ---- all entries

nothing : {X : Type 0} (xs : List X) → length xs ≡ 0 → xs ≡ []
nothing [] e = refl
nothing (x ∷ xs) e = absurd (omega (arith, e))

pub none : (X : Type 0) → map.entries {X = X} {R = nat_cmp} map.empty ≡ []
none X = nothing _ (sym (len-entries map.empty) ∙ len-empty nat_cmp X)

pub entries-more : {X : Type 0} (m : FinMap nat_cmp X) (k : ℕ) (v : X) → map.entries (map.insert m k v) ≡ map.put nat_cmp k v (map.entries m)
entries-more m k v = entries-insert nat_cmp_total m k v

-- ---- how many there are

pub len-listed : {X : Type 0} (m : FinMap nat_cmp X) → map.len m ≡ length (map.entries m)
len-listed m = len-entries m

pub len-none : (X : Type 0) → map.len {X = X} {R = nat_cmp} map.empty ≡ 0
len-none X = len-empty nat_cmp X

pub len-more : {X : Type 0} (m : FinMap nat_cmp X) (k : ℕ) (v : X) → map.len (map.insert m k v) ≡ cond (map.contains_key m k) (map.len m) (map.len m + 1)
len-more m k v = len-insert nat_cmp_total m k v

pub len-less : {X : Type 0} (m : FinMap nat_cmp X) (k : ℕ) → map.len (map.remove m k) ≡ cond (map.contains_key m k) (map.len m - 1) (map.len m)
len-less m k = len-remove nat_cmp_total m k

-- ---- sets

pub contains-none : (q : ℕ) → set.contains {R = nat_cmp} set.empty q ≡ false
contains-none q = contains-empty nat_cmp q

pub contains-more : (s : FinSet nat_cmp) (k q : ℕ) → set.contains (set.insert s k) q ≡ (eq_by_cmp nat_cmp q k || set.contains s q)
contains-more s k q = contains-insert nat_cmp_total s k q

pub contains-less : (s : FinSet nat_cmp) (k q : ℕ) → set.contains (set.remove s k) q ≡ (not (eq_by_cmp nat_cmp q k) && set.contains s q)
contains-less s k q = contains-remove nat_cmp_total s k q

pub set_len-none : set.len {R = nat_cmp} set.empty ≡ 0
set_len-none = set.len-empty nat_cmp

pub set_len-more : (s : FinSet nat_cmp) (k : ℕ) → set.len (set.insert s k) ≡ cond (set.contains s k) (set.len s) (set.len s + 1)
set_len-more s k = set.len-insert nat_cmp_total s k
