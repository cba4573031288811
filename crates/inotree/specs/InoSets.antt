-- Sets of inodes, by their numbers.
use Rattle.std.specs.Prelude.{◌≡◌, ℕ, ◌<◌, ◌≤◌, true, false, List, ◌∷◌, Option, Some, None}
use Rattle.std.specs.FinSet as set
use Rattle.std.specs.FinSet.{FinSet}
use Rattle.std.specs.List.{IsDistinct, list_any}
use Rattle.std.specs.Ordering.{eq_by_cmp, nat_cmp}
use Rattle.capbits.specs.declared.ids.Ino.{Ino}

abbrev pub InoSet : Type 0
InoSet = FinSet nat_cmp

-- these numbers are theirs, each once
pub record IsListOf (inos : InoSet) (numbers : List ℕ) : Type 0 where
  pub among : (k : ℕ) → set.contains inos k ≡ list_any (eq_by_cmp nat_cmp k) numbers
  pub once : IsDistinct (eq_by_cmp nat_cmp) numbers

-- the inode is one of them and has a number of at least this one, and none between is one
pub record IsLeastFrom (inos : InoSet) (from ino : ℕ) : Type 0 where
  pub has : set.contains inos ino ≡ true
  pub not_below : from ≤ ino
  pub least : (k : ℕ) → from ≤ k → k < ino → set.contains inos k ≡ false

-- the least of them that has a number of at least this one, if there is one
abbrev pub IsNext : InoSet → ℕ → Option Ino → Type 0
IsNext inos from None = (k : ℕ) → from ≤ k → set.contains inos k ≡ false
IsNext inos from (Some ino) = IsLeastFrom inos from ino.0

-- the numbers that are left of a walk over one inode, while that is still to come, and over these
abbrev pub with_one : Option Ino → List ℕ → List ℕ
with_one None numbers = numbers
with_one (Some ino) numbers = ino.0 ∷ numbers
