-- The numbers of what releases say of a client beside this server fit.
use Rattle.std.proofs.Common.{◌≡◌, ℕ, zero, suc, ◌+◌, ◌<◌, ◌^◌, Option, Some, None, List, [], ◌∷◌, length, refl, arith}
use Rattle.std.specs.Prelude.{Result, Ok, Err, position, slice_get}
use Rattle.std.specs.Option.{option_or}
use Rattle.std.proofs.lemmas.Bool.{cond_both}
use Rattle.capgrant.specs.declared.access.Access.{Access}
use Rattle.capgrant.specs.declared.access.Attr.{Attr}
use Rattle.policy_analysis.specs.declared.mds_standing.MdsStanding.{MdsStanding}
use Rattle.policy_analysis.specs.declared.standing.Standing.{Standing}
use Rattle.policy_analysis.specs.declared.standing.Standing.TheVariants as here
use Rattle.policy_analysis.specs.BesideStanding.{beside_read, beside_standing, other_of}
use Rattle.policy_analysis.specs.Callers.{Wanted}
use Rattle.policy_analysis.specs.MdsStanding.{MdsWanted, at_place, by_place, is_by_address, is_sure, lets_in, nobody, standing_by, switches}
use Rattle.release_grants.specs.declared.grant.Grant.{Grant}
use Rattle.release_grants.specs.declared.reading.Unread.{Unread}
use Rattle.release_rules.specs.declared.release.Release.TheVariants.{Pacific, Reef, Tentacle}
use Rattle.release_grants.specs.declared.switches.Switches.{Switches}
use Rattle.release_rules.specs.declared.verdict.Verdict.{Verdict}
use Rattle.release_rules.specs.declared.verdict.Verdict.TheVariants as mds
use Rattle.release_grants.specs.Reading.{read_of}
use Rattle.release_rules.specs.Verdicts.{may_mount}
use Rattle.release_grants.proofs.FewRead.{AreFew, few_read}
use Rattle.texts.specs.Lines.{HasGrantIf}
use Rattle.texts.specs.MdsTold.{AreCounted, HasMdsGrant, IsCounted}
use Rattle.queries.specs.declared.clients.Telling.{Telling}
use Rattle.queries.specs.declared.clients.Telling.TheVariants.{Line, More, Object}
use Rattle.queries.specs.Clients.{others_in}
use Rattle.queries.specs.ClientsBy.{wanted_there}

-- ---- the standing there

inside : (grants : List Grant) (place : ℕ) (g : Grant) → slice_get grants place ≡ Some g → place < length grants
inside [] zero g is = absurd (let e : None ≡ Some g = is in cc)
inside [] (suc place) g is = absurd (let e : None ≡ Some g = is in cc)
inside (x ∷ grants) zero g is = omega arith
inside (x ∷ grants) (suc place) g is = omega (arith, inside grants place g is)

module _ (w : MdsWanted) (grants : List Grant) (few : length grants < 2 ^ 64) where
  small_at : (place : ℕ) (found : Option Grant) → slice_get grants place ≡ found → HasMdsGrant (at_place w grants place found).verdict
  small_at place None at = tt
  small_at place (Some g) at =
      cond_both (is_by_address w g) (mds.DependsOnAddress (place + 1)) (mds.Allowed (place + 1)) HasMdsGrant (λ is. omega (arith, inside grants place g at, few)) (λ other. omega (arith, inside grants place g at, few))

  small_by : (found : Option ℕ) → HasMdsGrant (by_place w grants found).verdict
  small_by None = tt
  small_by (Some place) = small_at place (slice_get grants place) refl

  small_there : HasMdsGrant (standing_by w grants).verdict
  small_there =
      let found : Option ℕ = option_or (position (is_sure w) grants) (position (lets_in w) grants) in
      cond_both (may_mount (switches w) w.fs grants) (by_place w grants found) (nobody mds.CannotMount) (λ (s : MdsStanding). HasMdsGrant s.verdict) (λ may. small_by found) (λ other. tt)

-- ---- beside this server's

counted : (s : Switches) (grants : List Grant) (access : Access) (standing : Standing) (verdict : Verdict) → HasGrantIf standing → HasMdsGrant verdict → IsCounted (beside_standing s grants access standing verdict)
counted s grants access (here.Allowed n) mds.CannotMount small also = tt
counted s grants access (here.Allowed n) (mds.Allowed m) small also = tt
counted s grants access (here.Allowed n) (mds.DependsOnAddress m) small also = tt
counted s grants access (here.Allowed n) (mds.Denied rules) small also = omega (arith, small)
counted s grants access (here.Depends n) mds.CannotMount small also = tt
counted s grants access (here.Depends n) (mds.Allowed m) small also = tt
counted s grants access (here.Depends n) (mds.DependsOnAddress m) small also = tt
counted s grants access (here.Depends n) (mds.Denied rules) small also = omega (arith, small)
counted s grants access (here.Denied failing) mds.CannotMount small also = tt
counted s grants access (here.Denied failing) (mds.Allowed m) small also = also
counted s grants access (here.Denied failing) (mds.DependsOnAddress m) small also = also
counted s grants access (here.Denied failing) (mds.Denied rules) small also = tt

counted_if : (w : MdsWanted) (standing : Standing) (most : ℕ) (read : Result (List Grant) Unread) → most < 2 ^ 64 → HasGrantIf standing → AreFew most read → IsCounted (beside_read w standing read)
counted_if w standing most (Err unread) fits small few = tt
counted_if w standing most (Ok grants) fits small few =
    counted (switches w) grants w.access standing (standing_by w grants).verdict small (small_there w grants (omega (arith, few, fits)))

counted_of : (w : MdsWanted) (text : List ℕ) (standing : Standing) → length text < 2 ^ 63 → HasGrantIf standing → IsCounted (other_of w text standing)
counted_of w text standing short small = counted_if w standing (length text + 1) (read_of (switches w) text) (omega (arith, short)) small (few_read (switches w) text)

pub are_counted : (telling : Telling) (w : Wanted) (attr : Option Attr) (text : List ℕ) (standing : Standing) → length text < 2 ^ 63 → HasGrantIf standing → AreCounted (others_in telling w attr text standing)
are_counted Line w attr text standing short small = (tt, tt, tt)
are_counted More w attr text standing short small =
    (counted_of (wanted_there w attr Pacific) text standing short small, counted_of (wanted_there w attr Reef) text standing short small, counted_of (wanted_there w attr Tentacle) text standing short small)
are_counted Object w attr text standing short small =
    (counted_of (wanted_there w attr Pacific) text standing short small, counted_of (wanted_there w attr Reef) text standing short small, counted_of (wanted_there w attr Tentacle) text standing short small)
