-- What the MDS of a release allows by a grant, and its clients refuse as another comes last.
use Rattle.std.specs.Prelude.{◌≡◌, ℕ, ◌<◌, nat_lt, ◌&&◌, ◌==◌, Option, Some, None, unwrap_or, List, [], ◌∷◌, length, slice_index_or, codes, All, MatchOption, if◌then◌else◌}
use Rattle.capbits.specs.declared.caller.Caller.{Caller}
use Rattle.capspec.specs.Names.{IsFsName}
use Rattle.capspec.specs.Paths.{names_of}
use Rattle.capgrant.specs.declared.access.Access.TheVariants.{Chmod}
use Rattle.capgrant.specs.declared.access.Attr.{Attr}
use Rattle.release_grants.specs.declared.grant.Grant.{Grant}
use Rattle.release_rules.specs.declared.release.Release.{Release}
use Rattle.release_rules.specs.declared.release.Release.TheVariants.{Reef, Tentacle}
use Rattle.release_grants.specs.declared.switches.Switches.{Switches}
use Rattle.release_rules.specs.Asked.{asked_for}
use Rattle.release_rules.specs.Clients.{client_refuses}
use Rattle.release_rules.specs.Failing.{user_of}
use Rattle.release_grants.specs.Flags.{has_w}
use Rattle.release_rules.specs.Question.{Question}
use Rattle.release_rules.specs.Releases.{switches_of}
use Rattle.release_rules.specs.Verdicts.{is_allowed, verdict_of}
use Rattle.policy_analysis.specs.declared.refusal.Refusal.{Refusal}
use Rattle.policy_analysis.specs.declared.releases.Releases.{Releases}
use Rattle.policy_analysis.specs.declared.releases.Releases.TheVariants.{One, Today}
use Rattle.policy_analysis.specs.Asking.{caller_of}
use Rattle.policy_analysis.specs.Releases.{switches_for}
use Rattle.policy_analysis.specs.Squashing.{longer, owned_by, with_first_of}

-- ---- what clients refuse

-- the number of a grant, if it has 32 bits
abbrev pub small : Option ℕ → Option ℕ
small None = None
small (Some number) = if nat_lt number 4294967296 then Some number else None

-- the number of the grant by which a client of the release refuses what its MDS allows by this grant alone
abbrev pub refused_in : List Grant → Grant → Question → Release → Option ℕ
refused_in grants g q release = if is_allowed (verdict_of (switches_of release) q (g ∷ [])) then small (client_refuses (switches_of release) q grants) else None

-- the release, and that number
abbrev pub refused_of_one : Release → Option ℕ → Option (Releases × ℕ)
refused_of_one release None = None
refused_of_one release (Some by) = Some (One release, by)

-- of Ceph 18 and 20 those that refuse, and by which grant, if they do by these; where they are two, that of Ceph 18
abbrev pub refused_today : Option ℕ → Option ℕ → Option (Releases × ℕ)
refused_today None tentacle = refused_of_one Tentacle tentacle
refused_today (Some by) None = Some (One Reef, by)
refused_today (Some by) (Some other) = Some (if by == other then Today else One Reef, by)

-- of these releases those whose clients refuse what their MDS allows by this grant, and by which grant they do
abbrev pub refused_by : Releases → List Grant → Grant → Question → Option (Releases × ℕ)
refused_by (One release) grants g q = refused_of_one release (refused_in grants g q release)
refused_by Today grants g q = refused_today (refused_in grants g q Reef) (refused_in grants g q Tentacle)

-- this caller wants to change the mode of such an inode
abbrev pub changing : List ℕ → Caller → List (List ℕ) → Attr → Question
changing fs caller path attr = record { fs = fs; caller = caller; path = path; attr = attr; asked = asked_for Chmod; address = None }

-- the witness asks to change a mode, and clients refuse it by the grant that it names
pub record IsRefusal (asked : Releases) (grants : List Grant) (g : Grant) (found : Refusal) : Type 0 where
  pub access : found.witness.access ≡ Chmod
  pub refused : refused_by asked grants g (changing found.witness.fs found.witness.caller found.witness.path.now found.witness.attr) ≡ Some (found.releases, found.witness.grant)

-- ---- where it is looked for

-- the names of a grant's path
abbrev pub names_in : Grant → List (List ℕ)
names_in g = by_text g.path
  where
    by_text : Option (List ℕ) → List (List ℕ)
    by_text None = []
    by_text (Some text) = names_of text

-- the file system that one of the grants names, the first if both do, or else x
abbrev pub fs_of_two : Grant → Grant → List ℕ
fs_of_two g h = unwrap_or g.fsname (unwrap_or h.fsname (codes "x"))

-- the user that one of the grants is for, the first if both are, or else 1
abbrev pub user_of_two : Switches → Grant → Grant → ℕ
user_of_two switches g h = unwrap_or (user_of switches g) (unwrap_or (user_of switches h) 1)

-- That user, in a group that each of the grants lists. Its first group is root's where the second grant lets others than root write.
abbrev pub caller_of_two : Switches → Grant → Grant → Caller
caller_of_two switches g h =
    with_first_of (with_first_of (caller_of (user_of_two switches g h) (if h.root_squash && has_w h.flags then 0 else 1)) g.gids) h.gids

-- the question of two grants: that caller wants to change the mode of its own inode, at the longer of their paths
abbrev pub question_of_two : Switches → Grant → Grant → Question
question_of_two switches g h = changing (fs_of_two g h) (caller_of_two switches g h) (longer (names_in g) (names_in h)) (owned_by (caller_of_two switches g h).uid)

-- no client refuses that question, where there is a file system of such a name
abbrev pub NoneRefuses : Releases → List Grant → Grant → Grant → Type 0
NoneRefuses asked grants g h = IsFsName (fs_of_two g h) → refused_by asked grants g (question_of_two (switches_for asked) g h) ≡ None

-- of a grant: what was found; or nothing, where no client refuses a question of it and another
abbrev pub IsFoundOf : Releases → List Grant → Grant → Option Refusal → Type 0
IsFoundOf asked grants g found = MatchOption found (All (NoneRefuses asked grants g) grants) (IsRefusal asked grants g)

-- one for each grant
pub record AreRefusals (asked : Releases) (grants : List Grant) (found : List (Option Refusal)) : Type 0 where
  pub one_each : length found ≡ length grants
  pub each : (i : ℕ) (g : Grant) (r : Option Refusal) → i < length found → IsFoundOf asked grants (slice_index_or grants i g) (slice_index_or found i r)
