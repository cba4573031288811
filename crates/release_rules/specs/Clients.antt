-- The check that clients make themselves before they ask the MDS to change the attributes of an inode.
use Rattle.std.specs.Prelude.{ℕ, ◌+◌, Bool, true, false, not, ◌&&◌, ◌||◌, Option, Some, None, List, [], ◌∷◌, if◌then◌else◌}
use Rattle.capgrant.specs.declared.access.Access.{Access}
use Rattle.capgrant.specs.declared.access.Access.TheVariants.{Read, SetVxattr, Snapshot}
use Rattle.release_grants.specs.declared.grant.Grant.{Grant}
use Rattle.release_grants.specs.declared.switches.Switches.{Switches}
use Rattle.release_rules.specs.Failing.{fails_fsname, fails_gids, fails_path, fails_uid, is_root}
use Rattle.release_grants.specs.Flags.{has_w}
use Rattle.release_rules.specs.Question.{Question}

-- the access changes attributes, as a client checks it before it asks; to write may be to change the size or the times
abbrev pub changes_attributes : Access → Bool
changes_attributes Read = false
changes_attributes SetVxattr = false
changes_attributes Snapshot = false
changes_attributes access = true

-- the grant is for the caller and the inode. A client does not look at the network.
unfoldable pub is_for : Switches → Question → Grant → Bool
is_for switches q g = not (fails_fsname switches q g) && (not (fails_uid switches q g) && (not (fails_gids switches q g) && not (fails_path switches q g)))

-- by the grant no attribute may be changed
unfoldable pub refuses : Question → Grant → Bool
refuses q g = not (has_w g.flags) || (g.root_squash && is_root q.caller)

abbrev pub number_if : Bool → ℕ → Option ℕ
number_if condition number = if condition then Some number else None

-- what is left of a refusal behind a grant with the number: one that is for the caller decides anew
abbrev pub decided : Switches → Question → ℕ → Option ℕ → Grant → Option ℕ
decided switches q number before g = if is_for switches q g then number_if (refuses q g) number else before

-- the same behind all these grants, with so many before them. So the last that is for the caller decides.
abbrev pub refused_behind : Switches → Question → ℕ → Option ℕ → List Grant → Option ℕ
refused_behind switches q count before [] = before
refused_behind switches q count before (g ∷ grants) = refused_behind switches q (count + 1) (decided switches q (count + 1) before g) grants

-- the number of the grant, from 1, by which the client refuses the caller to change attributes, if its release looks and it does
abbrev pub client_refuses : Switches → Question → List Grant → Option ℕ
client_refuses switches q grants = if switches.clients_check then refused_behind switches q 0 None grants else None
