-- Ceph 18 and 20 read grants alike, and what is odd in them is the same.
use Rattle.std.proofs.Common.{◌≡◌, ℕ, zero, suc, Some, None, List, [], ◌∷◌, ◌++◌, length, codes, refl, ap}
use Rattle.std.specs.Prelude.{Ok, bytes_eq, if◌then◌else◌}
use Rattle.byte_sets.specs.Sets.{is_any_white}
use Rattle.capspec.specs.Words.{rest_while}
use Rattle.release_grants.specs.declared.grant.Grant.{Grant}
use Rattle.release_rules.specs.declared.release.Release.TheVariants.{Reef, Tentacle}
use Rattle.release_grants.specs.declared.switches.Switches.{Switches}
use Rattle.release_rules.specs.Failing.{user_of}
use Rattle.release_grants.specs.Reading.{grant_at, grants_behind, more_grants, next_grant, plain_allow, read_of, whole}
use Rattle.release_rules.specs.Releases.{switches_of}
use Rattle.release_grants.specs.Texts.{Found, if_found}
use Rattle.policy_analysis.specs.declared.oddity.Oddity.{Oddity}
use Rattle.policy_analysis.specs.declared.oddity.Oddity.TheVariants.{CommandsMds, GidsAlone, LargeUid, NoNetwork, TwoSlashes, ZeroUid}
use Rattle.policy_analysis.specs.Oddities.{is_odd}

abbrev reef : Switches
reef = switches_of Reef

abbrev tentacle : Switches
tentacle = switches_of Tentacle

more_alike : (count : ℕ) (grants : List Grant) (text : List ℕ) → more_grants reef count grants text ≡ more_grants tentacle count grants text
more_alike zero grants text = refl
more_alike (suc count) grants text = by_next (next_grant reef text) (λ g rest. more_alike count (grants ++ g ∷ []) rest)
  where
    by_next : (next : Found Grant) → ((g : Grant) (rest : List ℕ) → more_grants reef count (grants ++ g ∷ []) rest ≡ more_grants tentacle count (grants ++ g ∷ []) rest)
        → if_found next (grants, text) (λ found. more_grants reef count (grants ++ found.0 ∷ []) found.1) ≡ if_found next (grants, text) (λ found. more_grants tentacle count (grants ++ found.0 ∷ []) found.1)
    by_next None more = refl
    by_next (Some (g, rest)) more = more g rest

behind_alike : (text : List ℕ) (found : Found Grant) (start : List ℕ) → grants_behind reef text found start ≡ grants_behind tentacle text found start
behind_alike text None start = refl
behind_alike text (Some (first, rest)) start = ap (whole text) (more_alike (length rest) (first ∷ []) rest)

pub read_alike : (text : List ℕ) → read_of reef text ≡ read_of tentacle text
read_alike text =
    let start : List ℕ = rest_while is_any_white text in
    λ i. if bytes_eq text (codes "allow") then Ok (plain_allow ∷ []) else behind_alike text (grant_at reef start) start i

pub odd_alike : (g : Grant) (o : Oddity) → is_odd reef g o ≡ is_odd tentacle g o
unfolding user_of
odd_alike g ZeroUid = refl
odd_alike g GidsAlone = refl
odd_alike g CommandsMds = refl
odd_alike g NoNetwork = refl
odd_alike g TwoSlashes = refl
odd_alike g LargeUid = refl
