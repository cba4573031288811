-- What in a grant means something else to the MDS of a release than it seems to.
use Rattle.std.specs.Prelude.{ℕ, ◌+◌, nat_le, Bool, not, ◌&&◌, ◌==◌, None, is_none, is_some, List, [], ◌∷◌, ◌++◌, length, map, filter}
use Rattle.capspec.specs.Paths.{has_double_slash}
use Rattle.capgrant.specs.Failing.{is_some_and}
use Rattle.release_grants.specs.declared.grant.Grant.{Grant}
use Rattle.release_grants.specs.declared.switches.Switches.{Switches}
use Rattle.release_rules.specs.Failing.{is_zero}
use Rattle.release_grants.specs.Networks.{network_in}
use Rattle.release_grants.specs.Paths.{directory_of}
use Rattle.release_rules.specs.Verdicts.{is_for_everything}
use Rattle.policy_analysis.specs.declared.oddity.OddGrant.{OddGrant}
use Rattle.policy_analysis.specs.declared.oddity.Oddity.{Oddity}
use Rattle.policy_analysis.specs.declared.oddity.Oddity.TheVariants.{CommandsMds, GidsAlone, LargeUid, NoNetwork, TwoSlashes, ZeroUid}

-- its uid is 0, and that is no uid
abbrev pub has_zero_uid : Switches → Grant → Bool
has_zero_uid switches g = switches.zero_is_no_uid && is_some_and is_zero g.uid

-- the grant for every user
abbrev pub for_all : Grant → Grant
for_all g = record g { uid = None; gids = [] }

-- it has gids and no uid
abbrev pub has_gids_alone : Grant → Bool
has_gids_alone g = is_none g.uid && not (length g.gids == 0)

-- it names a file system, and is for everything
abbrev pub commands_mds : Switches → Grant → Bool
commands_mds switches g = is_some g.fsname && is_for_everything switches g

-- it has a network, and the text of that writes none
abbrev pub has_no_network : Grant → Bool
has_no_network g = is_some_and (λ text. is_none (network_in text)) g.network

-- it has a path, within which two slashes stand side by side
abbrev pub has_two_slashes : Switches → Grant → Bool
has_two_slashes switches g = is_some_and (λ path. has_double_slash (directory_of switches path)) g.path

-- no caller has its uid
abbrev pub has_large_uid : Grant → Bool
has_large_uid g = is_some_and (λ uid. nat_le 2147483648 uid) g.uid

-- this is odd in the grant, by what a release does its own way
abbrev pub is_odd : Switches → Grant → Oddity → Bool
is_odd switches g ZeroUid = has_zero_uid switches g
is_odd switches g GidsAlone = has_gids_alone g
is_odd switches g CommandsMds = commands_mds switches g
is_odd switches g NoNetwork = has_no_network g
is_odd switches g TwoSlashes = has_two_slashes switches g
is_odd switches g LargeUid = has_large_uid g

abbrev pub all_oddities : List Oddity
all_oddities = ZeroUid ∷ GidsAlone ∷ CommandsMds ∷ NoNetwork ∷ TwoSlashes ∷ LargeUid ∷ []

-- this is odd in the grant of this number
abbrev pub odd : ℕ → Oddity → OddGrant
odd number oddity = record { grant = number; oddity = oddity }

-- all that is odd in the grant of this number
abbrev pub oddities_of : Switches → ℕ → Grant → List OddGrant
oddities_of switches number g = map (odd number) (filter (is_odd switches g) all_oddities)

-- all that is odd in the grants, which are counted on from this number
abbrev pub oddities_from : Switches → ℕ → List Grant → List OddGrant
oddities_from switches number [] = []
oddities_from switches number (g ∷ grants) = oddities_of switches number g ++ oddities_from switches (number + 1) grants

-- the same of a whole text
abbrev pub oddities : Switches → List Grant → List OddGrant
oddities switches grants = oddities_from switches 1 grants
