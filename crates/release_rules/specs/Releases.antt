-- What each release of Ceph does its own way with the grants of a client. All else is the same in the three.
use Rattle.std.specs.Prelude.{ℕ, Bool, ◌||◌, false, true, Option, Some, None, List, bytes_eq, codes, if◌then◌else◌}
use Rattle.release_rules.specs.declared.release.Release.{Release}
use Rattle.release_rules.specs.declared.release.Release.TheVariants.{Pacific, Reef, Tentacle}
use Rattle.release_grants.specs.declared.switches.Switches.{Switches}

-- what the release does its own way
abbrev pub switches_of : Release → Switches
switches_of Pacific = record { has_two_orders = true; zero_is_no_uid = false; judges_fsname = false; drops_last_slashes = false; clients_check = false }
switches_of Reef = record { has_two_orders = false; zero_is_no_uid = true; judges_fsname = false; drops_last_slashes = true; clients_check = true }
switches_of Tentacle = record { has_two_orders = false; zero_is_no_uid = true; judges_fsname = true; drops_last_slashes = true; clients_check = true }

-- ---- how a release is named

-- the number of the one version of it that was asked
abbrev pub version_of : Release → List ℕ
version_of Pacific = codes "16.2.15"
version_of Reef = codes "18.2.7"
version_of Tentacle = codes "20.2.4"

abbrev pub is_either : List ℕ → List ℕ → List ℕ → Bool
is_either one other word = bytes_eq word one || bytes_eq word other

-- the release that a word names: by its number, or by that of the version that was asked
abbrev pub release_of : List ℕ → Option Release
release_of word =
    if is_either (codes "16") (codes "16.2.15") word then Some Pacific
    else (if is_either (codes "18") (codes "18.2.7") word then Some Reef
    else (if is_either (codes "20") (codes "20.2.4") word then Some Tentacle else None))
