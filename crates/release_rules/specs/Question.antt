-- What is asked of the grants of a client, and what a grant knows of who asks.
use Rattle.std.specs.Prelude.{ℕ, Bool, false, ◌==◌, ◌&&◌, ◌||◌, nat_lt, Option, List, [], ◌∷◌, if◌then◌else◌}
use Rattle.capbits.specs.declared.caller.Caller.{Caller}
use Rattle.capgrant.specs.declared.access.Attr.{Attr}
use Rattle.capgrant.specs.Question.{contains}
use Rattle.release_rules.specs.declared.asked.Asked.{Asked}
use Rattle.release_grants.specs.declared.grant.Grant.{Grant}
use Rattle.release_grants.specs.Networks.{Address}

-- what is asked: on this file system, may this caller do this with the inode that has these names and attributes? Where it is known, the
-- address of the client.
pub record Question : Type 0 where
  pub fs : List ℕ
  pub caller : Caller
  pub path : List (List ℕ)
  pub attr : Attr
  pub asked : Asked
  pub address : Option Address

-- the number stands before any greater one
abbrev pub is_in_groups : ℕ → List ℕ → Bool
is_in_groups n [] = false
is_in_groups n (x ∷ xs) = if nat_lt n x then false else ((x == n) || is_in_groups n xs)

-- The group is one by which the caller acts under the grant: the grant lists it, and it is the caller's first, or one of the others. An MDS goes
-- through these beside the listed ones, which it has sorted, and passes over one that comes behind a greater one.
unfoldable pub is_own_group : Caller → Grant → ℕ → Bool
is_own_group caller g gid = contains g.gids gid && ((caller.gid == gid) || is_in_groups gid caller.groups)

-- the caller owns the inode
abbrev pub is_owner : Question → Bool
is_owner q = q.caller.uid == q.attr.uid

-- the lowest of the three permission bits that speak of the caller: of the owner, else of the group, else of all others
abbrev pub class_unit : Question → Grant → ℕ
class_unit q g = if is_owner q then 64 else (if is_own_group q.caller g q.attr.gid then 8 else 1)
