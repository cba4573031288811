-- The numbers of what releases answer beside this server fit.
use Rattle.std.proofs.Common.{◌≡◌, ℕ, ◌+◌, ◌<◌, ◌^◌, Bool, Option, Some, None, List, [], ◌∷◌, length, refl, arith}
use Rattle.std.specs.Prelude.{Result, Ok, Err, position}
use Rattle.std.proofs.lemmas.Bool.{cond_both}
use Rattle.std.proofs.lemmas.List.Quantifiers.{position-Some}
use Rattle.capgrant.specs.declared.access.Access.{Access}
use Rattle.capgrant.specs.declared.answer.Verdict.{Verdict as Answer}
use Rattle.capgrant.specs.declared.answer.Verdict.TheVariants as here
use Rattle.policy_analysis.specs.Left.{left_to_client}
use Rattle.release_grants.specs.declared.grant.Grant.{Grant}
use Rattle.release_grants.specs.declared.reading.Unread.{Unread}
use Rattle.release_rules.specs.declared.release.Release.{Release}
use Rattle.release_rules.specs.declared.release.Release.TheVariants.{Pacific, Reef, Tentacle}
use Rattle.release_grants.specs.declared.switches.Switches.{Switches}
use Rattle.release_rules.specs.declared.verdict.Verdict.{Verdict}
use Rattle.release_rules.specs.declared.verdict.Verdict.TheVariants as mds
use Rattle.release_rules.specs.Beside.{beside, beside_read, other_of}
use Rattle.release_rules.specs.Question.{Question as MdsQuestion}
use Rattle.release_grants.specs.Reading.{read_of}
use Rattle.release_rules.specs.Releases.{switches_of}
use Rattle.release_rules.specs.Verdicts.{allows, first_failures, may_allow, may_mount, verdict_at, verdict_of}
use Rattle.release_grants.proofs.FewRead.{AreFew, few_read}
use Rattle.texts.specs.Lines.{HasGrant}
use Rattle.texts.specs.MdsTold.{AreBeside, HasMdsGrant, IsCounted}
use Rattle.texts.specs.Remarked.{HasNumbers}
use Rattle.texts.proofs.Asked.{has_grant, has_left}
use Rattle.queries.specs.declared.question.Question.{Question}
use Rattle.queries.specs.Question.{verdict_on}
use Rattle.queries.specs.Remarks.{asked_of, mds_asked, others_on}

pub below : (p : Grant → Bool) (grants : List Grant) (i : ℕ) → position p grants ≡ Some i → i < length grants
below p [] i at = absurd (let e : None ≡ Some i = at in cc)
below p (g ∷ grants) i at = (position-Some p (g ∷ grants) i g at).0

pub small_there : (switches : Switches) (q : MdsQuestion) (grants : List Grant) → length grants < 2 ^ 64 → HasMdsGrant (verdict_of switches q grants)
small_there switches q grants few =
    cond_both (may_mount switches q.fs grants) (verdict_at (position (allows switches q) grants) (position (may_allow switches q) grants) (first_failures switches q grants)) mds.CannotMount HasMdsGrant
    (λ may. by_places (position (allows switches q) grants) (position (may_allow switches q) grants) refl refl) (λ other. tt)
  where
    by_places : (place maybe : Option ℕ) → position (allows switches q) grants ≡ place → position (may_allow switches q) grants ≡ maybe → HasMdsGrant (verdict_at place maybe (first_failures switches q grants))
    by_places (Some i) maybe at also = omega (arith, below (allows switches q) grants i at, few)
    by_places None (Some i) at also = omega (arith, below (may_allow switches q) grants i also, few)
    by_places None None at also = tt

counted : (switches : Switches) (grants : List Grant) (access : Access) (answer : Answer) (verdict : Verdict) → HasGrant answer → HasMdsGrant verdict → IsCounted (beside switches grants access answer verdict)
counted switches grants access (here.Allowed n) mds.CannotMount small also = tt
counted switches grants access (here.Allowed n) (mds.Allowed m) small also = tt
counted switches grants access (here.Allowed n) (mds.DependsOnAddress m) small also = tt
counted switches grants access (here.Allowed n) (mds.Denied rules) small also = omega (arith, small)
counted switches grants access (here.Denied failing) mds.CannotMount small also = tt
counted switches grants access (here.Denied failing) (mds.Allowed m) small also = also
counted switches grants access (here.Denied failing) (mds.DependsOnAddress m) small also = tt
counted switches grants access (here.Denied failing) (mds.Denied rules) small also = tt

counted_if : (switches : Switches) (q : MdsQuestion) (access : Access) (answer : Answer) (most : ℕ) (read : Result (List Grant) Unread) → most < 2 ^ 64 → HasGrant answer → AreFew most read
    → IsCounted (beside_read switches q access answer read)
counted_if switches q access answer most (Err unread) fits small few = tt
counted_if switches q access answer most (Ok grants) fits small few = counted switches grants access answer (verdict_of switches q grants) small (small_there switches q grants (omega (arith, few, fits)))

counted_of : (release : Release) (q : MdsQuestion) (access : Access) (answer : Answer) (text : List ℕ) → length text < 2 ^ 63 → HasGrant answer → IsCounted (other_of release q access answer text)
counted_of release q access answer text short small =
    let switches : Switches = switches_of release in
    counted_if switches q access answer (length text + 1) (read_of switches text) (omega (arith, short)) small (few_read switches text)

-- the numbers of all that is said to a question fit, where the text of the grants is not too long
pub are_beside : (grants : List ℕ) (q : Question) → HasNumbers (asked_of q) q.grants → length grants < 2 ^ 63 → AreBeside (asked_of q) (verdict_on q) (left_to_client (asked_of q) q.grants) (others_on grants q)
are_beside grants q fits short =
    let small : HasGrant (verdict_on q) = has_grant (asked_of q) q.grants fits.few in record {
      access = fits.access;
      grant = small;
      owner = fits.owner;
      group = fits.group;
      mode = fits.mode;
      to_client = has_left (asked_of q) q.grants fits.few;
      pacific = counted_of Pacific (mds_asked q) q.access (verdict_on q) grants short small;
      reef = counted_of Reef (mds_asked q) q.access (verdict_on q) grants short small;
      tentacle = counted_of Tentacle (mds_asked q) q.access (verdict_on q) grants short small;
    }
