-- How far a path's text begins with the names of another path.
use Rattle.std.specs.Prelude.{◌≡◌, ◌≢◌, ℕ, ◌+◌, ◌<◌, ◌≤◌, Some, List, [], ◌∷◌, length, take, slice_get}
use Rattle.capspec.specs.Paths.{slashed}
use Rattle.capspec.specs.declared.grant.Grant.{Grant}
use Rattle.capspec.specs.declared.shared_prefix.SharedPrefix.{SharedPrefix}
use Rattle.capspec.specs.declared.kept.Alike.{Alike}

-- the text begins with these names, a slash before each
abbrev pub BeginsWith : List ℕ → List (List ℕ) → Type 0
BeginsWith text names = take (length (slashed names)) text ≡ slashed names

-- the text begins with the first of the names, as many as are counted, which take as many bytes
abbrev pub Begins : List (List ℕ) → List ℕ → SharedPrefix → Type 0
Begins names text b = (b.count ≤ length names) × (b.size ≡ length (slashed (take b.count names))) × BeginsWith text (take b.count names)

-- and with no more of them
abbrev pub IsSharedPrefix : List (List ℕ) → List ℕ → SharedPrefix → Type 0
IsSharedPrefix names text b = Begins names text b × (b.count < length names → BeginsWith text (take (b.count + 1) names) → ⊥)

-- both texts have the same first bytes, as many as this
abbrev pub ShareFirst : List ℕ → List ℕ → ℕ → Type 0
ShareFirst one other n = (n ≤ length one) × (n ≤ length other) × (take n one ≡ take n other)

-- the path of the grant at a place shares so many first bytes with that of the other
abbrev pub IsAlike : List Grant → ℕ → Alike → Type 0
IsAlike grants place a = (g h : Grant) → slice_get grants place ≡ Some g → slice_get grants a.other ≡ Some h → ShareFirst (slashed h.path) (slashed g.path) a.bytes

-- the like of the first grants
abbrev pub AreAlike : List Grant → List Alike → Type 0
AreAlike grants alike = (length alike ≤ length grants) × ((place : ℕ) (a : Alike) → slice_get alike place ≡ Some a → IsAlike grants place a)

-- of each of the first grants it is told how far its path begins with the names
abbrev pub AreSharedPrefixes : List (List ℕ) → List Grant → List SharedPrefix → Type 0
AreSharedPrefixes names grants shared_prefix = (place : ℕ) (g : Grant) (b : SharedPrefix) → slice_get grants place ≡ Some g → slice_get shared_prefix place ≡ Some b → IsSharedPrefix names (slashed g.path) b
