-- Grants of this server that say the same as those of an MDS, but for setting an attribute.
use Rattle.std.specs.Prelude.{◌≡◌, ◌≤◌, ◌<◌, ◌⊎◌, ⊤, ℕ, ◌+◌, ◌*◌, length, Bool, true, false, not, ◌&&◌, ◌||◌, bytes_eq, if◌then◌else◌, Option, Some, None, is_none, option_map, IsSomeAnd, IsTrue, List, [], ◌∷◌, ◌++◌, Contains, filter}
use Rattle.std.specs.List.{list_all, list_any}
use Rattle.capspec.specs.declared.flags.Flags4.{Flags4}
use Rattle.capspec.specs.declared.flags.Flags4.TheVariants.{R, Rw, Rws}
use Rattle.capspec.specs.declared.grant.Grant.{Grant as OwnGrant}
use Rattle.capspec.specs.Names.{IsFsName}
use Rattle.capspec.specs.Paths.{names_of}
use Rattle.capgrant.specs.declared.access.Access.{Access}
use Rattle.capgrant.specs.declared.access.Access.TheVariants.{Chgrp, Chmod, Chown, Write}
use Rattle.capgrant.specs.Access.{is_set_vxattr}
use Rattle.capgrant.specs.Failing.{is_some_and}
use Rattle.capgrant.specs.Question.{Question}
use Rattle.capgrant.specs.Verdict.{allows}
use Rattle.release_grants.specs.declared.flags.Flags.{Flags}
use Rattle.release_grants.specs.declared.grant.Grant.{Grant}
use Rattle.release_grants.specs.declared.network.InNetwork.{InNetwork}
use Rattle.release_grants.specs.declared.network.InNetwork.TheVariants.{No, Unknown, Yes}
use Rattle.release_grants.specs.declared.switches.Switches.{Switches}
use Rattle.release_rules.specs.Failing.{has_user, user_of}
use Rattle.release_grants.specs.Flags.{has_p, has_s, has_w}
use Rattle.release_grants.specs.Networks.{address_of, in_network}
use Rattle.release_grants.specs.Paths.{directory_of, ends_in_slash}
use Rattle.release_rules.specs.Verdicts.{is_for_everything, may_allow, may_mount}
use Rattle.policy_analysis.specs.declared.witness.Witness.{Witness}
use Rattle.policy_analysis.specs.Comparing.{is_root, question_of}
use Rattle.policy_analysis.specs.ComparingBy.{CanBeAsked, IsAskedAs, Terms, put_to}
use Rattle.policy_analysis.specs.declared.stand_ins.NotCompared.{NotCompared}
use Rattle.policy_analysis.specs.declared.stand_ins.NotCompared.TheVariants.{LastSlash, NoMemory, TooLarge}
use Rattle.policy_analysis.specs.declared.stand_ins.StandingIn.{StandingIn}
use Rattle.policy_analysis.specs.Oddities.{has_large_uid, has_two_slashes}
use Rattle.policy_analysis.specs.Vxattrs.{as_owner}

-- what stands in by these settings is judged by these terms
abbrev pub terms_in : StandingIn → Terms
terms_in k = record { switches = k.switches; address = option_map address_of k.address }

-- ---- what is asked

-- the accesses here that together are one there: to change the mode is to write, and to change the owner or the group is to write too
abbrev pub together : Access → List Access
together Chmod = Write ∷ []
together (Chown uid) = Write ∷ Chown uid ∷ []
together (Chgrp gid) = Write ∷ Chgrp gid ∷ []
together access = access ∷ []

-- the same question of another access
abbrev pub with_access : Question → Access → Question
with_access q access = record q { access = access }

-- a grant here allows all of them
abbrev pub allows_together : Question → OwnGrant → Bool
allows_together q own = list_all (λ access. allows (with_access q access) own) (together q.access)

-- ---- what an MDS says

-- whether a grant plays a part: not where the client is known not to be in its network, and where that is open only if it is asked what may be
abbrev pub plays : Bool → InNetwork → Bool
plays maybe Yes = true
plays maybe No = false
plays maybe Unknown = maybe

-- a grant that plays a part allows it
abbrev pub one_allows : Terms → Bool → Question → Grant → Bool
one_allows t maybe q g = plays maybe (in_network g.network t.address) && may_allow t.switches (put_to t q) g

-- some grant does, and the client may mount
abbrev pub is_allowed_there : Terms → Bool → List Grant → Question → Bool
is_allowed_there t maybe grants q = may_mount t.switches q.fs grants && list_any (one_allows t maybe q) grants

-- ---- a grant that stands in for one

-- the flags without p: none of the grants that stand in sets an attribute here
abbrev pub flags_for : Flags → Flags4
flags_for flags = if has_w flags then (if has_s flags then Rws else Rw) else R

-- the names of its directory; none where it is for the whole tree
abbrev pub names_for : Switches → Option (List ℕ) → List (List ℕ)
names_for s None = []
names_for s (Some path) = names_of (directory_of s path)

-- it says here, on a file system or on each, what the other says there
pub record IsStandIn (s : Switches) (fs : Option (List ℕ)) (g : Grant) (own : OwnGrant) : Type 0 where
  pub flags : own.flags ≡ flags_for g.flags
  pub fsname : own.fsname ≡ (if s.judges_fsname then g.fsname else fs)
  pub path : own.path ≡ names_for s g.path
  pub end : is_some_and (λ path. ends_in_slash (directory_of s path)) g.path ≡ false
  pub user : own.uid ≡ user_of s g
  pub gids : own.gids ≡ (if has_user s g then g.gids else [])
  pub squashes : own.root_squash ≡ g.root_squash

-- the grant allows somebody something: of attributes, where it is about them
abbrev pub allows_something : Terms → Bool → Bool → Grant → Bool
allows_something t maybe vxattr g =
    plays maybe (in_network g.network t.address) && (not (has_large_uid g) && (not (has_two_slashes t.switches g) && (not vxattr || has_p g.flags)))

-- ---- the grants that stand in for others

-- a list of them says so to a question that can be asked
abbrev pub say : Bool → List OwnGrant → Question → Bool
say vxattr owns q = if vxattr then list_any (allows (as_owner q)) owns else list_any (allows_together q) owns

-- those that stand in on a file system count for the question
abbrev pub is_on : Switches → Option (List ℕ) → Question → Bool
is_on s fs q = if s.judges_fsname then true else not (is_some_and (λ name. not (bytes_eq name q.fs)) fs)

-- those that are added say there what the others say
abbrev pub Adds : Bool → Terms → Bool → Option (List ℕ) → List Grant → List OwnGrant → List OwnGrant → Type 0
Adds vxattr t maybe fs grants before after =
    (q : Question) → CanBeAsked q → is_set_vxattr q.access ≡ vxattr → say vxattr after q ≡ (say vxattr before q || (is_on t.switches fs q && list_any (one_allows t maybe q) grants))

-- the grant names this file system
abbrev pub names : List ℕ → Grant → Bool
names fs g = is_some_and (λ name. bytes_eq name fs) g.fsname

-- by the grant a client mounts each file system
abbrev pub mounts_each : Switches → Grant → Bool
mounts_each s g = is_none g.fsname || is_for_everything s g

-- those for attributes say what the others say to an attribute, and those for all else what they say to all else
abbrev pub StandInFor : Bool → Terms → Bool → List Grant → List OwnGrant → Type 0
StandInFor vxattr t maybe grants owns =
    (q : Question) → CanBeAsked q → is_set_vxattr q.access ≡ vxattr → say vxattr owns q ≡ is_allowed_there t maybe grants q

-- for both, sure and maybe
pub record AllStandIn (t : Terms) (maybe : Bool) (grants : List Grant) (vxattr others : List OwnGrant) : Type 0 where
  pub vxattr_say : StandInFor true t maybe grants vxattr
  pub others_say : StandInFor false t maybe grants others
  pub few_vxattr : length vxattr ≤ 16
  pub few_others : length others ≤ 16

-- ---- why none stand in

-- the file system of the grant, unless one of those before names it
abbrev pub newly_named : List Grant → Option (List ℕ) → List (Option (List ℕ))
newly_named before None = []
newly_named before (Some name) = if list_any (names name) before then [] else Some name ∷ []

-- the file systems that these grants name and those before do not, each once
abbrev pub named_after : List Grant → List Grant → List (Option (List ℕ))
named_after before [] = []
named_after before (g ∷ grants) = newly_named before g.fsname ++ named_after (before ++ g ∷ []) grants

-- where the grants have to be stood in for: once, where a name counts with each access, or by some grant a client mounts each file system; else on each
-- that they name
abbrev pub file_systems : Switches → List Grant → List (Option (List ℕ))
file_systems s grants = if s.judges_fsname || list_any (mounts_each s) grants then None ∷ [] else named_after [] grants

-- the grants that have to be stood in for
abbrev pub allowing : Bool → Terms → Bool → List Grant → List Grant
allowing vxattr t maybe grants = filter (allows_something t maybe vxattr) grants

-- why none stands in for a grant: no grant here lists so many gids, or names such a file system, or is for what lies below a directory alone
abbrev pub IsWhyNone : Switches → Option (List ℕ) → Grant → NotCompared → Type 0
IsWhyNone s fs g TooLarge = (IsTrue (has_user s g) × (16 < length g.gids)) ⊎ IsSomeAnd (if s.judges_fsname then g.fsname else fs) (λ name. ¬ IsFsName name)
IsWhyNone s fs g LastSlash = IsTrue (is_some_and (λ path. ends_in_slash (directory_of s path)) g.path)
IsWhyNone s fs g NoMemory = ⊤

-- on this file system none stands in for one of these grants, which allows something
abbrev pub HasNone : Bool → Terms → Bool → Option (List ℕ) → List Grant → NotCompared → Type 0
HasNone vxattr t maybe fs grants why = (g : Grant) × Contains grants g × (allows_something t maybe vxattr g ≡ true) × IsWhyNone t.switches fs g why

-- why those that stand in are not added to so many: there would be more than 16, or one has none
abbrev pub IsWhyNotAdded : Bool → Terms → Bool → Option (List ℕ) → List Grant → ℕ → NotCompared → Type 0
IsWhyNotAdded vxattr t maybe fs grants size why = ((why ≡ TooLarge) × (16 < size + length (allowing vxattr t maybe grants))) ⊎ HasNone vxattr t maybe fs grants why

-- why none stand in for a list: more than 16 would have to, those that allow something on each file system, or one has none on one of these
abbrev pub IsWhyNot : Bool → Terms → Bool → List Grant → NotCompared → Type 0
IsWhyNot vxattr t maybe grants why =
    ((why ≡ TooLarge) × (16 < length (file_systems t.switches grants) * length (allowing vxattr t maybe grants)))
    ⊎ ((fs : Option (List ℕ)) × Contains (file_systems t.switches grants) fs × HasNone vxattr t maybe fs grants why)

-- why grants are not compared: there are more than 16, or none stand in for them, for attributes or for all else, of those that are sure or that may be
abbrev pub IsNotCompared : Terms → List Grant → NotCompared → Type 0
IsNotCompared t grants why = ((why ≡ TooLarge) × (16 < length grants)) ⊎ ((vxattr maybe : Bool) × IsWhyNot vxattr t maybe grants why)

-- ---- what such grants say more than others

-- whatever the new ones say to root, or to others than root, the old ones say
abbrev pub SaysAll : List OwnGrant → List OwnGrant → List OwnGrant → List OwnGrant → Bool → Type 0
SaysAll old_vxattr old new_vxattr new root =
    (q : Question) → CanBeAsked q → is_root q.caller ≡ root → say (is_set_vxattr q.access) (if is_set_vxattr q.access then new_vxattr else new) q ≡ true
    → say (is_set_vxattr q.access) (if is_set_vxattr q.access then old_vxattr else old) q ≡ true

-- as an MDS is asked it, the new ones say it and the old ones do not
abbrev pub IsSaidMore : List OwnGrant → List OwnGrant → List OwnGrant → List OwnGrant → Witness → Type 0
IsSaidMore old_vxattr old new_vxattr new found =
    (asked : Witness) → IsAskedAs found asked
    → (say (is_set_vxattr asked.access) (if is_set_vxattr asked.access then new_vxattr else new) (question_of asked) ≡ true)
    × (say (is_set_vxattr asked.access) (if is_set_vxattr asked.access then old_vxattr else old) (question_of asked) ≡ false)
