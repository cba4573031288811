-- The numbers of what is told of a log fit in its object.
use Rattle.std.proofs.Common.{ℕ, ◌+◌, ◌<◌, ◌≤◌, ◌^◌, Option, Some, None, List, [], ◌∷◌, length, sym, subst, arith}
use Rattle.std.specs.Prelude.{⊤, All, codes, filter_map, position}
use Rattle.std.specs.Global.{Vec}
use Rattle.std.specs.List.{cons_option}
use Rattle.std.proofs.lemmas.Bool.{cond_both}
use Rattle.std.proofs.lemmas.List.Elements.{All-cons, All-nil}
use Rattle.serde_json.specs.Data.{null, string}
use Rattle.capspec.specs.declared.grant.Grant.{Grant}
use Rattle.capspec.specs.Items.{IsNumber, is_comma}
use Rattle.capspec.specs.Separated.{AreSeparated}
use Rattle.capgrant.specs.declared.access.Access.{Access}
use Rattle.capgrant.specs.declared.access.Access.TheVariants.{Chgrp, Chmod, Chown, Read, SetVxattr, Snapshot, Write}
use Rattle.capgrant.specs.Failing.{first_failing}
use Rattle.capgrant.specs.Question.{Question as Asked}
use Rattle.capgrant.specs.Verdict.{allows, first_failures, verdict_at, verdict_of}
use Rattle.policy_analysis.specs.Left.{left_to_client}
use Rattle.release_grants.specs.declared.grant.Grant.{Grant as MdsGrant}
use Rattle.release_grants.specs.declared.switches.Switches.{Switches}
use Rattle.release_rules.specs.declared.verdict.Verdict.TheVariants as mds
use Rattle.release_rules.specs.Failing.{first_failing as first_mds_failing}
use Rattle.release_rules.specs.Question.{Question as MdsQuestion}
use Rattle.release_rules.specs.Releases.{version_of}
use Rattle.release_rules.specs.Verdicts.{allows as mds_allows, first_failures as mds_failures, may_allow, may_mount, verdict_at as mds_verdict_at, verdict_of as mds_verdict_of}
use Rattle.texts.specs.declared.mds_asked.MdsAccess.{MdsAccess}
use Rattle.texts.specs.declared.mds_asked.MdsAccess.TheVariants.{Mask as AllOf}
use Rattle.texts.specs.Access.{IsAccessWord}
use Rattle.texts.specs.Lines.{HasNumber}
use Rattle.texts.specs.MdsAsked.{mds_access_word}
use Rattle.texts.specs.MdsTold.{HasRefusal, HasSmallNumbers}
use Rattle.texts.specs.Standing.{fault_word}
use Rattle.texts.specs.Values.{HasWholeNumbers, Table, bytes_value, natural, numbers_value}
use Rattle.texts.proofs.WholeObjects.{AllWhole, HasFewMdsRules, HasFewRules, HasSmallIds, IsSmall, whole-answer, whole-bytes, whole-mds, whole-numbers, whole-object}
use Rattle.queries.specs.declared.any_path.AnyPath.{AnyPath}
use Rattle.queries.specs.declared.any_path.AnyPath.TheVariants.{Anywhere, Nowhere, OnAddress, Somewhere}
use Rattle.queries.specs.declared.question.Asking.{Asking}
use Rattle.queries.specs.declared.question.Question.{Question}
use Rattle.queries.specs.declared.question.Values.{Values}
use Rattle.queries.specs.AnyPath.{HasSmall}
use Rattle.queries.specs.Items.{HasObject, IsOfMask, IsTellable}
use Rattle.queries.specs.Mds.{asked_by}
use Rattle.queries.specs.Options.{option_name}
use Rattle.queries.specs.Question.{AsksBy, AsksFor, verdict_on}
use Rattle.queries.specs.Remarks.{asked_of, others_on}
use Rattle.queries.specs.Told.{Told, any_grant, any_word, fault_value}
use Rattle.queries.specs.Told.Told.{answered, bad, formless, judged_by, not_read, pathless, refused, unknown}
use Rattle.queries.specs.Values.{AreGroupsIf}
use Rattle.queries.proofs.FewThere.{are_beside}
use Rattle.queries.proofs.Fitting.{small_mode}

-- ---- what values ask

small_row : (text gids : List ℕ) → AreSeparated is_comma IsNumber text gids → All IsSmall gids
small_row text [] row = absurd row
small_row text (n ∷ []) row = All-cons IsSmall n [] row.small (All-nil IsSmall)
small_row text (n ∷ m ∷ more) row = All-cons IsSmall n (m ∷ more) row.5.small (small_row row.1 (m ∷ more) row.6)

small_groups : (text : Option (Vec ℕ)) (gids : List ℕ) → AreGroupsIf text gids → All IsSmall gids
small_groups None gids none = subst (All IsSmall) (sym none) (All-nil IsSmall)
small_groups (Some text) gids are = small_row text.items gids are.0

pub small_ids : (v : Values) (q : Question) → AsksFor v q → HasSmallIds q.caller
small_ids v q asks = record { uid = asks.uid.small; gid = asks.gid.small; groups = small_groups v.groups q.caller.groups asks.groups }

-- whatever the grants
pub record AsksSmall (a : Asking) : Type 0 where
  pub ids : HasSmallIds a.caller
  pub owner : a.attr.uid < 2 ^ 32
  pub group : a.attr.gid < 2 ^ 32
  pub mode : a.attr.mode < 2 ^ 12
  pub access : HasNumber a.access

small_access : (text : List ℕ) (access : Access) → IsAccessWord text access → HasNumber access
small_access text Read is = tt
small_access text Write is = tt
small_access text SetVxattr is = tt
small_access text Snapshot is = tt
small_access text Chmod is = tt
small_access text (Chown uid) is = is.2.small
small_access text (Chgrp gid) is = is.2.small

pub asks_small : (v : Values) (text : List ℕ) (a : Asking) → AsksBy v text a → AsksSmall a
asks_small v text a asks = record {
  ids = record { uid = asks.uid.small; gid = asks.gid.small; groups = small_groups v.groups a.caller.groups asks.groups };
  owner = asks.owner.small;
  group = asks.group.small;
  mode = small_mode v.mode.items a.attr.mode asks.mode;
  access = small_access text a.access asks.access;
}

-- ---- the rules that deny

few_kept : {X Y : Type 0} (f : X → Option Y) (xs : List X) → length (filter_map f xs) ≤ length xs
few_kept f [] = omega arith
few_kept {X} {Y} f (x ∷ xs) = by_one (f x) (few_kept f xs)
  where
    by_one : (o : Option Y) → length (filter_map f xs) ≤ length xs → length (cons_option o (filter_map f xs)) ≤ length (x ∷ xs)
    by_one None few = omega (arith, few)
    by_one (Some y) few = omega (arith, few)

few_here : (q : Asked) (grants : List Grant) → length grants < 2 ^ 32 → HasFewRules (verdict_of q grants)
unfolding verdict_of
few_here q grants few = by_place (position (allows q) grants)
  where
    by_place : (place : Option ℕ) → HasFewRules (verdict_at place (first_failures q grants))
    by_place (Some i) = tt
    by_place None = omega (arith, few, few_kept (first_failing q) grants)

pub few_there : (switches : Switches) (q : MdsQuestion) (grants : List MdsGrant) → length grants + 1 < 2 ^ 64 → HasFewMdsRules (mds_verdict_of switches q grants)
few_there switches q grants few =
    cond_both (may_mount switches q.fs grants) (mds_verdict_at (position (mds_allows switches q) grants) (position (may_allow switches q) grants) (mds_failures switches q grants)) mds.CannotMount HasFewMdsRules
    (λ may. by_places (position (mds_allows switches q) grants) (position (may_allow switches q) grants)) (λ other. tt)
  where
    by_places : (place maybe : Option ℕ) → HasFewMdsRules (mds_verdict_at place maybe (mds_failures switches q grants))
    by_places (Some i) maybe = tt
    by_places None (Some i) = tt
    by_places None None = omega (arith, few, few_kept (first_mds_failing switches q) grants)

-- ---- what is told

-- the numbers in its object that its lines don't have
abbrev pub HasRest : Told → Type 0
HasRest (answered q grants) = HasSmallIds q.caller
HasRest (judged_by a answer) = AsksSmall a.asking × HasFewMdsRules answer.verdict
HasRest (pathless caller access any) = HasSmallIds caller
HasRest told = ⊤

abbrev pub HasAllNumbers : Told → Type 0
HasAllNumbers told = IsTellable told × HasRest told

pub small_of : (access : MdsAccess) → IsOfMask access → HasSmallNumbers access
small_of (AllOf bits uid gid) fits = fits
small_of access fits = absurd fits

whole_any : (any : AnyPath) → HasSmall any → HasWholeNumbers (any_grant any)
whole_any (Anywhere grant) small = small
whole_any (OnAddress grant) small = small
whole_any (Somewhere grant) small = small
whole_any Nowhere small = tt

whole_fault : (number : ℕ) (word : List ℕ) (more : Table) → number < 2 ^ 64 → AllWhole more → HasWholeNumbers (fault_value number word more)
whole_fault number word more small all = whole-object ((codes "line", natural number) ∷ (codes "fault", string word) ∷ more) (small, (tt, all))

pub has_object : (number : ℕ) (t : Told) → number < 2 ^ 64 → HasAllNumbers t → HasObject (number, t)
has_object number (answered q grants) small fit =
    let beside = are_beside grants q fit.0.0 fit.0.1 in
    let few : HasFewRules (verdict_on q) = few_here (asked_of q) q.grants fit.0.0.few in (
      (fit.0.0.access, fit.0.0.mode),
      whole-answer number (asked_of q) (verdict_on q) (left_to_client (asked_of q) q.grants) (others_on grants q) small fit.1 beside.owner beside.group beside.grant few beside.to_client
          (beside.pacific, beside.reef, beside.tentacle),
    )
has_object number (judged_by a answer) small fit =
    let asks : AsksSmall a.asking = fit.1.0 in
    let refusal : HasRefusal answer.refused = subst HasRefusal (sym fit.0.2) tt in (
      (small_of a.access fit.0.0, asks.access, asks.mode),
      whole-mds number answer.release a.access (asked_by a.asking) answer.verdict answer.refused small asks.ids asks.owner asks.group fit.0.1 fit.1.1 refusal,
    )
has_object number (pathless caller access any) small fit = (
  fit.0.0,
  whole-object
      ((codes "line", natural number)
      ∷ (codes "access", string (mds_access_word access)) ∷ (codes "path", null)
      ∷ (codes "uid", natural caller.uid) ∷ (codes "gid", natural caller.gid) ∷ (codes "groups", numbers_value caller.groups)
      ∷ (codes "verdict", string (any_word any)) ∷ (codes "grant", any_grant any) ∷ [])
      (small, (tt, (tt, (omega (arith, fit.1.uid), (omega (arith, fit.1.gid), (whole-numbers caller.groups fit.1.groups, (tt, (whole_any any fit.0.1, tt)))))))),
)
has_object number formless small fit = (tt, whole_fault number (codes "form") [] small tt)
has_object number (unknown mask) small fit = (tt, whole_fault number (codes "mask") ((codes "mask", bytes_value mask) ∷ []) small (whole-bytes mask, tt))
has_object number (refused fault) small fit = (tt, whole_fault number (codes "grants") ((codes "kind", string (fault_word fault.kind)) ∷ (codes "at", natural fault.at) ∷ []) small (tt, (fit.0, tt)))
has_object number (bad option) small fit = (tt, whole_fault number (codes "value") ((codes "option", string (option_name option)) ∷ []) small (tt, tt))
has_object number (not_read found) small fit = (tt, whole_fault number (codes "not-read") ((codes "mds", string (version_of found.release)) ∷ (codes "at", natural found.at) ∷ []) small (tt, (fit.0, tt)))
