-- The rules: when a grant fails to allow what is asked of an MDS. The MDS tests all of them, in an order of its own.
use Rattle.std.specs.Prelude.{ℕ, Bool, not, nat_lt, ◌*◌, ◌&&◌, ◌||◌, ◌==◌, Option, None, is_none, is_some, length, find, bytes_eq, List, if◌then◌else◌}
use Rattle.std.specs.List.{list_any}
use Rattle.capbits.specs.declared.caller.Caller.{Caller}
use Rattle.capbits.specs.Caller.{gids_of}
use Rattle.capgrant.specs.Class.{has_bit}
use Rattle.capgrant.specs.Failing.{is_some_and}
use Rattle.capgrant.specs.Question.{contains}
use Rattle.release_grants.specs.declared.grant.Grant.{Grant}
use Rattle.release_grants.specs.declared.switches.Switches.{Switches}
use Rattle.release_rules.specs.declared.rule.Rule.{Rule}
use Rattle.release_rules.specs.declared.rule.Rule.TheVariants as rule
use Rattle.release_grants.specs.Flags.{has_f, has_p, has_s, has_w}
use Rattle.release_grants.specs.Networks.{in_network, is_no}
use Rattle.release_grants.specs.Paths.{directory_of, lies_in, path_text}
use Rattle.release_rules.specs.Question.{Question, class_unit, is_own_group, is_owner}
use Rattle.release_rules.specs.Rules.{all_rules, rules_but_path}

abbrev pub is_zero : ℕ → Bool
is_zero n = n == 0

-- the user that the grant is for, if it is for one
unfoldable pub user_of : Switches → Grant → Option ℕ
user_of switches g = if switches.zero_is_no_uid && is_some_and is_zero g.uid then None else g.uid

-- the grant is for one user, and not for all
abbrev pub has_user : Switches → Grant → Bool
has_user switches g = is_some (user_of switches g)

-- the caller is that user; a caller from 2 ^ 31 on is none that a grant names
abbrev pub is_user : ℕ → ℕ → Bool
is_user caller uid = (caller == uid) && nat_lt caller 2147483648

-- root by its uid or by its first group
abbrev pub is_root : Caller → Bool
is_root caller = (caller.uid == 0) || (caller.gid == 0)

-- the grant names a file system, and not this one
abbrev pub is_for_other_fs : List ℕ → Grant → Bool
is_for_other_fs fs g = is_some_and (λ name. not (bytes_eq name fs)) g.fsname

unfoldable pub fails_fsname : Switches → Question → Grant → Bool
fails_fsname switches q g = switches.judges_fsname && is_for_other_fs q.fs g

unfoldable pub fails_uid : Switches → Question → Grant → Bool
fails_uid switches q g = is_some_and (λ uid. not (is_user q.caller.uid uid)) (user_of switches g)

-- the grant is for one user and lists gids, and none of the caller's is listed
unfoldable pub fails_gids : Switches → Question → Grant → Bool
fails_gids switches q g = has_user switches g && (not (length g.gids == 0) && not (list_any (contains g.gids) (gids_of q.caller)))

unfoldable pub fails_path : Switches → Question → Grant → Bool
fails_path switches q g = is_some_and (λ path. not (lies_in (directory_of switches path) (path_text q.path))) g.path

unfoldable pub fails_no_write : Question → Grant → Bool
fails_no_write q g = q.asked.write && not (has_w g.flags)

unfoldable pub fails_root_squash : Question → Grant → Bool
fails_root_squash q g = q.asked.write && (g.root_squash && is_root q.caller)

unfoldable pub fails_no_p : Question → Grant → Bool
fails_no_p q g = q.asked.set_vxattr && not (has_p g.flags)

unfoldable pub fails_no_s : Question → Grant → Bool
fails_no_s q g = q.asked.snapshot && not (has_s g.flags)

-- the owner or the group is to change, and the caller is not the owner, or would give the inode to another
unfoldable pub fails_not_owner : Switches → Question → Grant → Bool
fails_not_owner switches q g =
    has_user switches g
    && (((is_some q.asked.new_owner || is_some q.asked.new_group) && not (is_owner q)) || is_some_and (λ uid. not (uid == q.caller.uid)) q.asked.new_owner)

unfoldable pub fails_not_own_group : Switches → Question → Grant → Bool
fails_not_own_group switches q g = has_user switches g && is_some_and (λ gid. not (is_own_group q.caller g gid)) q.asked.new_group

-- it is asked for, and the mode lacks the bit of the caller's class
abbrev pub lacks : Question → Grant → Bool → ℕ → Bool
lacks q g asked bit = asked && not (has_bit q.attr.mode (bit * class_unit q g))

unfoldable pub fails_mode_bits : Switches → Question → Grant → Bool
fails_mode_bits switches q g = has_user switches g && (lacks q g q.asked.read 4 || (lacks q g q.asked.write 2 || lacks q g q.asked.execute 1))

unfoldable pub fails_no_f : Question → Grant → Bool
fails_no_f q g = q.asked.full && not (has_f g.flags)

unfoldable pub fails_network : Question → Grant → Bool
fails_network q g = is_no (in_network g.network q.address)

-- the grant fails by the rule
abbrev pub fails : Rule → Switches → Question → Grant → Bool
fails rule.FsName switches q g = fails_fsname switches q g
fails rule.Uid switches q g = fails_uid switches q g
fails rule.Gids switches q g = fails_gids switches q g
fails rule.Path switches q g = fails_path switches q g
fails rule.NoWrite switches q g = fails_no_write q g
fails rule.RootSquash switches q g = fails_root_squash q g
fails rule.NoP switches q g = fails_no_p q g
fails rule.NoS switches q g = fails_no_s q g
fails rule.NotOwner switches q g = fails_not_owner switches q g
fails rule.NotOwnGroup switches q g = fails_not_own_group switches q g
fails rule.ModeBits switches q g = fails_mode_bits switches q g
fails rule.NoF switches q g = fails_no_f q g
fails rule.Network switches q g = fails_network q g

-- the first rule by which the grant fails, if there is one: all that is asked has to be allowed by the one grant
unfoldable pub first_failing : Switches → Question → Grant → Option Rule
first_failing switches q g = find (λ r. fails r switches q g) all_rules

-- no rule fails but, perhaps, that of the path: the grant allows it in its directory, if the client is in its network
unfoldable pub may_allow_somewhere : Switches → Question → Grant → Bool
may_allow_somewhere switches q g = is_none (find (λ r. fails r switches q g) rules_but_path)
