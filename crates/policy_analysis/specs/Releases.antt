-- Of which releases something is told.
use Rattle.std.specs.Prelude.{ℕ, List, [], ◌∷◌, codes}
use Rattle.release_rules.specs.declared.release.Release.TheVariants.{Pacific, Reef, Tentacle}
use Rattle.release_grants.specs.declared.switches.Switches.{Switches}
use Rattle.release_rules.specs.Releases.{switches_of}
use Rattle.policy_analysis.specs.declared.releases.Releases.{Releases}
use Rattle.policy_analysis.specs.declared.releases.Releases.TheVariants.{One, Today}

-- what the first of them does its own way
abbrev pub switches_for : Releases → Switches
switches_for (One release) = switches_of release
switches_for Today = switches_of Reef

-- how a line names them
abbrev pub releases_text : Releases → List ℕ
releases_text (One Pacific) = codes "Ceph 16"
releases_text (One Reef) = codes "Ceph 18"
releases_text (One Tentacle) = codes "Ceph 20"
releases_text Today = codes "Ceph 18 and 20"

-- their numbers
abbrev pub releases_numbers : Releases → List ℕ
releases_numbers (One Pacific) = 16 ∷ []
releases_numbers (One Reef) = 18 ∷ []
releases_numbers (One Tentacle) = 20 ∷ []
releases_numbers Today = 18 ∷ 20 ∷ []
