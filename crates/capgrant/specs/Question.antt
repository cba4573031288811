-- What is asked of a grant, and what a grant knows of who asks.
use Rattle.std.specs.Prelude.{ℕ, Bool, ◌==◌, if◌then◌else◌, List, filter}
use Rattle.std.specs.List.{list_any}
use Rattle.capbits.specs.declared.caller.Caller.{Caller}
use Rattle.capbits.specs.Caller.{gids_of}
use Rattle.capspec.specs.declared.grant.Grant.{Grant}
use Rattle.capgrant.specs.declared.access.Access.{Access}
use Rattle.capgrant.specs.declared.access.Attr.{Attr}
use Rattle.capgrant.specs.declared.class.Class.{Class}
use Rattle.capgrant.specs.declared.class.Class.TheVariants.{Group, Other, Owner}

-- what is asked: on this file system, may this caller make this access to the inode with this path, owner, group and mode?
pub record Question : Type 0 where
  pub fs : List ℕ
  pub caller : Caller
  pub path : List (List ℕ)
  pub attr : Attr
  pub access : Access

-- the question of a call
abbrev pub question : List ℕ → Caller → List (List ℕ) → Attr → Access → Question
question fs caller path attr access = record { fs = fs; caller = caller; path = path; attr = attr; access = access }

-- the number is one of these
abbrev pub contains : List ℕ → ℕ → Bool
contains numbers n = list_any (λ x. x == n) numbers

-- the caller's gids that the grant lists
unfoldable pub listed_gids : Caller → Grant → List ℕ
listed_gids caller g = filter (contains g.gids) (gids_of caller)

-- the caller owns the inode
abbrev pub is_owner : Question → Bool
is_owner q = q.caller.uid == q.attr.uid

-- the class of the caller: the owner; else the group, by a gid that the grant lists; else other
abbrev pub class_of : Question → Grant → Class
class_of q g = if is_owner q then Owner else (if contains (listed_gids q.caller g) q.attr.gid then Group else Other)
