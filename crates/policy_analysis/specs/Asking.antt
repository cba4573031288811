-- The questions that are asked for one grant.
use Rattle.std.specs.Prelude.{◌≡◌, ℕ, ◌<◌, Bool, true, false, not, ◌&&◌, ◌==◌, if◌then◌else◌, Some, unwrap_or, List, [], ◌∷◌, ◌++◌, All, Contains, MatchOption}
use Rattle.std.specs.Prelude.{position, length}
use Rattle.capbits.specs.declared.caller.Caller.{Caller}
use Rattle.capspec.specs.declared.grant.Grant.{Grant}
use Rattle.capgrant.specs.declared.access.Access.{Access}
use Rattle.capgrant.specs.declared.access.Access.TheVariants.{Chgrp, Chmod, Chown, Read, SetVxattr, Snapshot, Write}
use Rattle.capgrant.specs.declared.access.Attr.{Attr}
use Rattle.capgrant.specs.Question.{Question, contains, question}
use Rattle.capgrant.specs.Verdict.{allows, granted}
use Rattle.policy_analysis.specs.declared.asking.Accesses.{Accesses}
use Rattle.policy_analysis.specs.declared.asking.Accesses.TheVariants.{All as each, OfMds}
use Rattle.policy_analysis.specs.declared.asking.Found.{Found}
use Rattle.policy_analysis.specs.Comparing.{is_root}
use Rattle.policy_analysis.specs.Free.{NoneLists, NoneNames}

-- which accesses are asked for: each, by the rules of this server; or of grants that stand for those of an MDS all but attributes, which it judges
-- otherwise, and changes of the mode and of the owner, which go with writing there
abbrev pub is_wanted : Accesses → Access → Bool
is_wanted each access = true
is_wanted OfMds SetVxattr = false
is_wanted OfMds Chmod = false
is_wanted OfMds (Chown uid) = false
is_wanted OfMds access = true

-- what the questions have in common: the accesses, the grants that are compared, the file system, the path, and a gid that nobody lists
pub record Setting : Type 0 where
  pub accesses : Accesses
  pub old : List Grant
  pub new : List Grant
  pub fs : List ℕ
  pub path : List (List ℕ)
  pub nobody : ℕ

abbrev pub setting : Accesses → List Grant → List Grant → List ℕ → List (List ℕ) → ℕ → Setting
setting accesses old new fs path nobody = record { accesses = accesses; old = old; new = new; fs = fs; path = path; nobody = nobody }

abbrev pub asked : Setting → Caller → Attr → Access → Question
asked s caller attr access = question s.fs caller s.path attr access

-- the access is wanted, the new grants allow it, and the old ones deny it
abbrev pub is_gained : Setting → Question → Bool
is_gained s q = is_wanted s.accesses q.access && (granted q s.new && not (granted q s.old))

-- what was found is a question, of root or not, that the new grants allow and the old ones deny
pub record IsFound (s : Setting) (root : Bool) (found : Found) : Type 0 where
  pub asker : is_root found.caller ≡ root
  pub wanted : is_wanted s.accesses found.access ≡ true
  pub within : found.place < length s.new
  pub allowed : position (allows (asked s found.caller found.attr found.access)) s.new ≡ Some found.place
  pub denied : granted (asked s found.caller found.attr found.access) s.old ≡ false

-- of these accesses to such an inode none is gained
unfoldable pub GainsNone : Setting → Caller → Attr → List Access → Type 0
GainsNone s caller attr accesses = All (λ access. is_gained s (asked s caller attr access) ≡ false) accesses

abbrev pub attr_of : ℕ → ℕ → ℕ → Attr
attr_of uid gid mode = record { uid = uid; gid = gid; mode = mode }

-- the accesses on which the mode decides
abbrev pub by_mode : List Access
by_mode = Read ∷ Write ∷ SetVxattr ∷ Snapshot ∷ []

-- the others; the inode is given to this owner and this group
abbrev pub by_owner : ℕ → ℕ → List Access
by_owner uid gid = Chmod ∷ Chown uid ∷ Chgrp gid ∷ []

-- the user who asks for a grant, as root or not
abbrev pub uid_for : Grant → Bool → ℕ → ℕ
uid_for g root nobody = unwrap_or g.uid (if root then 0 else nobody)

-- the first group of that user
abbrev pub gid_for : ℕ → Bool → ℕ → ℕ
gid_for uid root nobody = if root && not (uid == 0) then 0 else nobody

-- some other user
abbrev pub another : ℕ → ℕ
another uid = if uid == 0 then 1 else 0

abbrev pub caller_of : ℕ → ℕ → Caller
caller_of uid gid = record { uid = uid; gid = gid; groups = [] }

-- the same caller in one group more
abbrev pub with_group : Caller → ℕ → Caller
with_group caller gid = record caller { groups = caller.groups ++ gid ∷ [] }

-- all accesses to an inode of this owner, group and mode, of the changes of the group that to the group `own`
pub record GainsNoneOfAll (s : Setting) (caller : Caller) (attr : Attr) (own : ℕ) : Type 0 where
  pub mode : GainsNone s caller attr by_mode
  pub owner : GainsNone s caller attr (by_owner caller.uid own)

-- nothing is gained by a caller as stranger, to whom no mode bit allows anything
unfoldable pub NoneAsNonOwner : Setting → Caller → ℕ → Type 0
NoneAsNonOwner s caller own = GainsNoneOfAll s caller (attr_of (another caller.uid) s.nobody 0) own

-- as the owner
unfoldable pub NoneAsOwner : Setting → Caller → ℕ → Type 0
NoneAsOwner s caller own = GainsNoneOfAll s caller (attr_of caller.uid s.nobody 0o600) own

-- as one of the inode's group
unfoldable pub NoneAsGroup : Setting → Caller → ℕ → Type 0
NoneAsGroup s caller own = GainsNone s caller (attr_of (another caller.uid) own 0o060) by_mode

-- as neither, though of the inode's group where a grant does not list it
unfoldable pub NoneAsOther : Setting → Caller → ℕ → Type 0
NoneAsOther s caller group = GainsNone s (with_group caller group) (attr_of (another caller.uid) group 0o006) by_mode

-- the same for each of these groups
unfoldable pub NoneAsOthersOf : Setting → Caller → List ℕ → Type 0
NoneAsOthersOf s caller groups = All (NoneAsOther s caller) groups

-- the same for each group that an old grant lists, and for one that nobody lists
pub record NoneAsOthers (s : Setting) (caller : Caller) : Type 0 where
  pub listed : All (λ h. NoneAsOthersOf s caller h.gids) s.old
  pub nobody : NoneAsOther s caller s.nobody

-- nothing is gained by this caller, with `own` for its one group that the grant lists
pub record NoneBy (s : Setting) (caller : Caller) (own : ℕ) : Type 0 where
  pub owner : NoneAsOwner s caller own
  pub group : NoneAsGroup s caller own
  pub other : NoneAsOthers s caller

-- The old grants allow each question of root, or of others than root, for one of the accesses that the grant allows.
abbrev pub CoversGrant : Accesses → List Grant → Bool → Grant → Type 0
CoversGrant accesses old root g = (q : Question) → is_wanted accesses q.access ≡ true → allows q g ≡ true → is_root q.caller ≡ root → granted q old ≡ true

-- the setting for this grant, one of the new: its path, and its file system or one that no old grant names
pub record IsSettingFor (s : Setting) (g : Grant) : Type 0 where
  pub among : Contains s.new g
  pub path : s.path ≡ g.path
  pub fs : MatchOption g.fsname (NoneNames s.fs s.old) (λ name. s.fs ≡ name)
  pub above : 0 < s.nobody
  pub old : NoneLists s.nobody s.old
  pub own : contains g.gids s.nobody ≡ false

-- the same, where the grant has a uid; else nothing is gained as stranger
unfoldable pub NoneFor : Setting → Grant → Caller → ℕ → Type 0
NoneFor s g caller own = MatchOption g.uid (NoneAsNonOwner s caller own) (λ uid. NoneBy s caller own)
