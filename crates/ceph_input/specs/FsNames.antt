-- The file systems that grants name.
use Rattle.std.specs.Prelude.{◌≡◌, ◌⊎◌, ℕ, Bool, false, not, bytes_eq, if◌then◌else◌, List, [], ◌∷◌, ◌++◌, Option, Some, None, codes}
use Rattle.std.specs.List.{AllZip, filter_map, flat_map, list_any}
use Rattle.capspec.specs.declared.fault.SpecFault.{SpecFault}
use Rattle.capspec.specs.declared.grant.Grant.{Grant}
use Rattle.capspec.specs.Faults.{IsFault}
use Rattle.capspec.specs.Grants.{Reads}
use Rattle.ceph_input.specs.Auth.{Named}

-- a name behind others, unless it is one of them
abbrev pub with_name : List (List ℕ) → List ℕ → List (List ℕ)
with_name names name = if list_any (bytes_eq name) names then names else names ++ name ∷ []

-- the same of one name after the other
abbrev pub with_names : List (List ℕ) → List (List ℕ) → List (List ℕ)
with_names names [] = names
with_names names (name ∷ more) = with_names (with_name names name) more

-- in their order, each once
abbrev pub each_once : List (List ℕ) → List (List ℕ)
each_once names = with_names [] names

-- the names that grants name, each as often as it is named
abbrev pub named_by : List Grant → List (List ℕ)
named_by grants = filter_map (λ g. g.fsname) grants

-- the file systems that some clients' grants name
abbrev pub fs_names : List (List Grant) → List (List ℕ)
fs_names lists = each_once (flat_map named_by lists)

-- the grants that a text means, if one is there and means some; else none
abbrev pub AreGrantsIn : Option (List ℕ) → List Grant → Type 0
AreGrantsIn None grants = grants ≡ []
AreGrantsIn (Some text) grants = Reads text grants ⊎ ((fault : SpecFault) × IsFault text fault × (grants ≡ []))

-- the grants of an entity
abbrev pub HasGrants : Named → List Grant → Type 0
HasGrants e grants = AreGrantsIn e.caps grants

-- the file systems that the grants of entities name
abbrev pub AreFsNames : List Named → List (List ℕ) → Type 0
AreFsNames entities names = (lists : List (List Grant)) × AllZip HasGrants entities lists × (names ≡ fs_names lists)

-- the file system of which is asked where none is given: the one that is named, if it is one alone. Where none is named, the name plays no part.
-- None where several are, and one has to be given.
abbrev pub the_one : List (List ℕ) → Option (List ℕ)
the_one [] = Some (codes "cephfs")
the_one (name ∷ []) = Some name
the_one (name ∷ other ∷ names) = None

-- the one that is given, or else that one
abbrev pub fs_among : List (List ℕ) → Option (List ℕ) → Option (List ℕ)
fs_among names (Some given) = Some given
fs_among names None = the_one names

-- others are named, and this one is not
abbrev pub is_unnamed : List (List ℕ) → List ℕ → Bool
is_unnamed [] fs = false
is_unnamed (name ∷ names) fs = not (list_any (bytes_eq fs) (name ∷ names))
