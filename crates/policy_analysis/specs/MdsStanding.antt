-- What the MDS of a release lets somebody behind a client's key do. A key names no user: a caller comes with each request.
use Rattle.std.specs.Prelude.{ℕ, ◌+◌, Bool, false, not, ◌&&◌, ◌==◌, Option, Some, None, is_none, is_some, unwrap_or, List, [], ◌∷◌, length}
use Rattle.std.specs.Prelude.{position, filter_map, slice_get, if◌then◌else◌}
use Rattle.std.specs.Option.{option_or}
use Rattle.capbits.specs.declared.caller.Caller.{Caller}
use Rattle.capgrant.specs.declared.access.Access.{Access}
use Rattle.capgrant.specs.declared.access.Attr.{Attr}
use Rattle.capgrant.specs.Question.{contains}
use Rattle.release_grants.specs.declared.grant.Grant.{Grant}
use Rattle.release_rules.specs.declared.release.Release.{Release}
use Rattle.release_grants.specs.declared.switches.Switches.{Switches}
use Rattle.release_rules.specs.declared.rule.Rule.{Rule}
use Rattle.release_rules.specs.declared.verdict.Verdict.{Verdict}
use Rattle.release_rules.specs.declared.verdict.Verdict.TheVariants.{Allowed, CannotMount, Denied, DependsOnAddress}
use Rattle.release_rules.specs.Asked.{asked_for}
use Rattle.release_rules.specs.Clients.{changes_attributes, client_refuses}
use Rattle.release_rules.specs.Failing.{first_failing, has_user, user_of}
use Rattle.release_rules.specs.Question.{Question}
use Rattle.release_rules.specs.Releases.{switches_of}
use Rattle.release_rules.specs.Verdicts.{is_open, may_allow, may_mount}
use Rattle.policy_analysis.specs.declared.mds_standing.MdsStanding.{MdsStanding}
use Rattle.policy_analysis.specs.Asking.{caller_of, with_group}
use Rattle.policy_analysis.specs.Callers.{beside}

-- an access to the inode with these names from the root down, on this file system of a cluster of this release; its owner, group and mode, where
-- they are known
pub record MdsWanted : Type 0 where
  pub release : Release
  pub fs : List ℕ
  pub path : List (List ℕ)
  pub access : Access
  pub known : Option Attr

abbrev pub switches : MdsWanted → Switches
switches w = switches_of w.release

-- ---- the few who are asked

-- the user whom a grant is for, or one of all
abbrev pub user_for : MdsWanted → Grant → ℕ
user_for w g = unwrap_or (user_of (switches w) g) 1

-- the owner, the group and the mode where a grant is asked: those that are known, else those of its own user's inode, with all mode bits
abbrev pub attr_asked : MdsWanted → Grant → Attr
attr_asked w g = unwrap_or w.known (record { uid = user_for w g; gid = 0; mode = 0o777 })

-- a caller with no further group, in this one
abbrev pub in_group : Caller → Option ℕ → Caller
in_group caller None = caller
in_group caller (Some gid) = with_group caller gid

-- that user in this further group; its first group is neither root's nor the inode's
abbrev pub caller_for : MdsWanted → Grant → Option ℕ → Caller
caller_for w g group = in_group (caller_of (user_for w g) (beside (attr_asked w g).gid)) group

-- what an MDS is asked by this caller of an inode with this owner, group and mode
abbrev pub asked_by : MdsWanted → Attr → Caller → Question
asked_by w attr caller = record { fs = w.fs; caller = caller; path = w.path; attr = attr; asked = asked_for w.access; address = None }

-- the grant lets in its user in this group, if the client is in its network
abbrev pub lets_in_with : MdsWanted → Grant → Option ℕ → Bool
lets_in_with w g group = may_allow (switches w) (asked_by w (attr_asked w g) (caller_for w g group)) g

-- the caller, if the grant lets it in
abbrev pub let_in_with : MdsWanted → Grant → Option ℕ → Option Caller
let_in_with w g group = if lets_in_with w g group then Some (caller_for w g group) else None

-- of that user in one of these groups, alone, the first whom the grant lets in
abbrev pub let_in_of : MdsWanted → Grant → List ℕ → Option Caller
let_in_of w g [] = None
let_in_of w g (gid ∷ gids) = if lets_in_with w g (Some gid) then Some (caller_for w g (Some gid)) else let_in_of w g gids

-- whom the grant lets in: its user, in one of the groups that it lists, or in none where it lists none
abbrev pub let_in : MdsWanted → Grant → Option Caller
let_in w g = if length g.gids == 0 then let_in_with w g None else let_in_of w g g.gids

-- ---- what is said

-- owner, group and mode decide by the grant, and are not known; to set an attribute of a directory they play no part
abbrev pub is_by_inode : MdsWanted → Grant → Bool
is_by_inode w g = is_none w.known && (has_user (switches w) g && not (asked_for w.access).set_vxattr)

-- it is not known whether the client is in the network of the grant
abbrev pub is_by_address : MdsWanted → Grant → Bool
is_by_address w g = is_open (asked_by w (attr_asked w g) (caller_for w g None)) g

-- the grant lets somebody in, if the client is in its network, and for some inode
abbrev pub lets_in : MdsWanted → Grant → Bool
lets_in w g = is_some (let_in w g)

-- the grant lets somebody in, wherever the client is, and whatever is not known of the inode
abbrev pub is_sure : MdsWanted → Grant → Bool
is_sure w g = lets_in w g && (not (is_by_inode w g) && not (is_by_address w g))

-- of the groups that a grant lists the one that the inode is to be given to, or else the first
abbrev pub group_for : Option ℕ → List ℕ → Option ℕ
group_for None gids = slice_get gids 0
group_for (Some gid) gids = if contains gids gid then Some gid else slice_get gids 0

-- the first rule by which a grant denies it to its user in that group
abbrev pub reason : MdsWanted → Grant → Option Rule
reason w g = first_failing (switches w) (asked_by w (attr_asked w g) (caller_for w g (group_for (asked_for w.access).new_group g.gids))) g

-- the rules by which each grant denies it so
abbrev pub reasons : MdsWanted → List Grant → List Rule
reasons w grants = filter_map (reason w) grants

-- nobody may, for this
abbrev pub nobody : Verdict → MdsStanding
nobody verdict = record { verdict = verdict; by_inode = false; refused = None }

-- the number of the grant by which the client itself refuses this caller, where it looks before it asks
abbrev pub refused_to : MdsWanted → List Grant → Grant → Option Caller → Option ℕ
refused_to w grants g None = None
refused_to w grants g (Some caller) = if changes_attributes w.access then client_refuses (switches w) (asked_by w (attr_asked w g) caller) grants else None

-- somebody may by this grant, which has this number
abbrev pub by_grant : MdsWanted → List Grant → ℕ → Grant → MdsStanding
by_grant w grants number g = record {
  verdict = if is_by_address w g then DependsOnAddress number else Allowed number;
  by_inode = is_by_inode w g;
  refused = refused_to w grants g (let_in w g);
}

-- no grant lets anybody in
abbrev pub denied : MdsWanted → List Grant → MdsStanding
denied w grants = nobody (Denied (reasons w grants))

-- by the grant at this place, from 0
abbrev pub at_place : MdsWanted → List Grant → ℕ → Option Grant → MdsStanding
at_place w grants place None = denied w grants
at_place w grants place (Some g) = by_grant w grants (place + 1) g

abbrev pub by_place : MdsWanted → List Grant → Option ℕ → MdsStanding
by_place w grants None = denied w grants
by_place w grants (Some place) = at_place w grants place (slice_get grants place)

-- by the first grant that lets somebody in for sure, else by the first that may
abbrev pub standing_by : MdsWanted → List Grant → MdsStanding
standing_by w grants =
    if may_mount (switches w) w.fs grants
    then by_place w grants (option_or (position (is_sure w) grants) (position (lets_in w) grants))
    else nobody CannotMount
