-- The grants of a client, as this server or the MDS of a release reads them.
use Rattle.std.specs.Prelude.{◌≡◌, ℕ, Option, Some, None, Ok, Err, List, []}
use Rattle.capspec.specs.Faults.{IsFault}
use Rattle.capspec.specs.Grants.{Reads}
use Rattle.release_rules.specs.declared.release.Release.{Release}
use Rattle.release_grants.specs.Reading.{read_of}
use Rattle.release_rules.specs.Releases.{switches_of}
use Rattle.cluster_audit.specs.declared.grants_by.GrantsBy.{GrantsBy}
use Rattle.cluster_audit.specs.declared.grants_by.GrantsBy.TheVariants.{Own, There}
use Rattle.cluster_audit.specs.declared.grants_by.Unreadable.{Unreadable}
use Rattle.cluster_audit.specs.declared.grants_by.Unreadable.TheVariants as unreadable

-- the text means these grants, to a release where one is named, and else to this server; where there is none there are no grants
abbrev pub IsReadBy : Option Release → Option (List ℕ) → GrantsBy → Type 0
IsReadBy None None grants = grants ≡ Own []
IsReadBy None (Some text) (Own grants) = Reads text grants
IsReadBy (Some release) None grants = grants ≡ There release None
IsReadBy (Some release) (Some text) (There by (Some grants)) = (by ≡ release) × (read_of (switches_of release) text ≡ Ok grants)
IsReadBy mds caps grants = ⊥

-- it means none, for this
abbrev pub IsUnreadBy : Option Release → Option (List ℕ) → Unreadable → Type 0
IsUnreadBy None (Some text) (unreadable.Own fault) = IsFault text fault
IsUnreadBy (Some release) (Some text) (unreadable.There by at) = (by ≡ release) × (read_of (switches_of release) text ≡ Err (record { at = at }))
IsUnreadBy mds caps what = ⊥
