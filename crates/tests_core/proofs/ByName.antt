-- What maps and sets of names answer.
use Rattle.std.specs.Prelude.{◌≡◌, ℕ, ◌+◌, false, ◌||◌, cond, Some, None, List}
use Rattle.std.specs.Cmp.Lexicographic.{nat_list_cmp_total}
use Rattle.std.specs.FinMap.{FinMap, get-empty, get-insert}
use Rattle.std.specs.FinSet.{FinSet, contains-empty, contains-insert}
use Rattle.std.specs.FinSet as set
use Rattle.std.specs.FinMap as map
use Rattle.std.specs.Ordering.{eq_by_cmp}
use Rattle.inotree.specs.Names.{name_cmp}

pub value-none : {X : Type 0} (name : List ℕ) → map.get {X = X} {R = name_cmp} map.empty name ≡ None
value-none name = get-empty name_cmp name

pub value-more : {X : Type 0} (m : FinMap name_cmp X) (k : List ℕ) (v : X) (name : List ℕ) → map.get (map.insert m k v) name ≡ cond (eq_by_cmp name_cmp name k) (Some v) (map.get m name)
value-more m k v name = get-insert nat_list_cmp_total m k v name

pub value-count-none : (X : Type 0) → map.len {X = X} {R = name_cmp} map.empty ≡ 0
value-count-none X = map.len-empty name_cmp X

pub snapshot-none : (name : List ℕ) → set.contains {R = name_cmp} set.empty name ≡ false
snapshot-none name = contains-empty name_cmp name

pub snapshot-more : (s : FinSet name_cmp) (k name : List ℕ) → set.contains (set.insert s k) name ≡ (eq_by_cmp name_cmp name k || set.contains s name)
snapshot-more s k name = contains-insert nat_list_cmp_total s k name

pub count-none : set.len {R = name_cmp} set.empty ≡ 0
count-none = set.len-empty name_cmp

pub count-more : (s : FinSet name_cmp) (k : List ℕ) → set.len (set.insert s k) ≡ cond (set.contains s k) (set.len s) (set.len s + 1)
count-more s k = set.len-insert nat_list_cmp_total s k
