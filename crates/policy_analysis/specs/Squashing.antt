-- The question by which one of two grants is seen to undo the root_squash of the other: root writes to what it owns.
use Rattle.std.specs.Prelude.{◌≡◌, ℕ, true, unwrap_or, List, [], ◌∷◌, if◌then◌else◌}
use Rattle.std.specs.List.{starts_with}
use Rattle.std.specs.Str.{bytes_eq}
use Rattle.capbits.specs.declared.caller.Caller.{Caller}
use Rattle.capspec.specs.declared.grant.Grant.{Grant}
use Rattle.capgrant.specs.declared.access.Access.TheVariants.{Write}
use Rattle.capgrant.specs.declared.access.Attr.{Attr}
use Rattle.capgrant.specs.Question.{Question, question}
use Rattle.capgrant.specs.Verdict.{allows}
use Rattle.policy_analysis.specs.Asking.{attr_of, caller_of, with_group}
use Rattle.policy_analysis.specs.Linting.{IsSquashed}

-- the file system that one of the grants names, the first if both do, or else this one
abbrev pub fs_of : Grant → Grant → List ℕ → List ℕ
fs_of g h any = unwrap_or g.fsname (unwrap_or h.fsname any)

-- the longer of two paths, where one is the beginning of the other
abbrev pub longer : List (List ℕ) → List (List ℕ) → List (List ℕ)
longer one other = if starts_with bytes_eq other one then other else one

-- the caller, in the first group that the grant lists
abbrev pub with_first_of : Caller → List ℕ → Caller
with_first_of caller [] = caller
with_first_of caller (gid ∷ gids) = with_group caller gid

abbrev pub with_first : Caller → Grant → Caller
with_first caller g = with_first_of caller g.gids

-- root by its first group: the user that one of the grants names, or else 0
abbrev pub root_of : Grant → Grant → Caller
root_of g h = with_first (with_first (caller_of (unwrap_or g.uid (unwrap_or h.uid 0)) 0) g) h

-- an inode of this user's, who may read and write it
abbrev pub owned_by : ℕ → Attr
owned_by uid = attr_of uid 0 0o600

-- the question of these two grants
abbrev pub root_writes : Grant → Grant → List ℕ → Question
root_writes g h any = question (fs_of g h any) (root_of g h) (longer g.path h.path) (owned_by (root_of g h).uid) Write

-- what the grant denies for root_squash alone, the other denies
abbrev pub KeepsAgainst : Grant → Grant → Type 0
KeepsAgainst g h = (q : Question) → IsSquashed g q → allows q h ≡ true → ⊥
