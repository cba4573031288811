-- Grants, and questions to them.
use Rattle.std.specs.Prelude.{ℕ, false, List, [], ◌∷◌, None, codes}
use Rattle.capbits.specs.declared.caller.Caller.{Caller}
use Rattle.capspec.specs.declared.flags.Flags4.{Flags4}
use Rattle.capspec.specs.declared.grant.Grant.{Grant}
use Rattle.capgrant.specs.declared.access.Access.{Access}
use Rattle.capgrant.specs.declared.access.Attr.{Attr}
use Rattle.capgrant.specs.declared.answer.Verdict.{Verdict}
use Rattle.capbits.specs.Text.{text_of}
use Rattle.capgrant.specs.Permitted.{permitted_of}
use Rattle.capgrant.specs.Question.{question}
use Rattle.capgrant.specs.Verdict.{verdict_of}

-- `allow`, these flags and no item
abbrev pub allow : Flags4 → Grant
allow flags = record { flags = flags; fsname = None; path = []; uid = None; gids = []; root_squash = false }

-- a caller in one group
abbrev pub caller : ℕ → ℕ → Caller
caller uid gid = record { uid = uid; gid = gid; groups = [] }

-- owner, group and mode of an inode
abbrev pub owned : ℕ → ℕ → ℕ → Attr
owned uid gid mode = record { uid = uid; gid = gid; mode = mode }

-- what the grants say on the file system `cephfs`
abbrev pub says : List Grant → Caller → Access → List (List ℕ) → Attr → Verdict
says grants by access path attr = verdict_of (question (codes "cephfs") by path attr access) grants

-- what they permit there of the inode /b/x, as a text
abbrev pub permits : List Grant → Caller → Attr → List ℕ
permits grants by attr = text_of (permitted_of (question (codes "cephfs") by (codes "b" ∷ codes "x" ∷ []) attr) grants)

-- a caller in two groups
abbrev pub member : Caller
member = record { uid = 9; gid = 50; groups = 60 ∷ [] }
