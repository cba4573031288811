-- The eleven rules: when a grant fails to allow what is asked.
use Rattle.std.specs.Prelude.{Bool, false, not, ◌&&◌, ◌||◌, ◌==◌, Option, Some, None, is_some, length, find, bytes_eq}
use Rattle.std.specs.List.{starts_with}
use Rattle.capspec.specs.declared.grant.Grant.{Grant}
use Rattle.capspec.specs.Flags.{has_p, has_s, has_w}
use Rattle.capgrant.specs.declared.rule.Rule.{Rule}
use Rattle.capgrant.specs.declared.rule.Rule.TheVariants as rule
use Rattle.capgrant.specs.Access.{changes_attr, is_read, is_set_vxattr, is_snapshot, new_group, new_owner}
use Rattle.capgrant.specs.Class.{has_bit, needed_bit}
use Rattle.capgrant.specs.Question.{Question, class_of, contains, is_owner, listed_gids}
use Rattle.capgrant.specs.Rule.{all_rules}

-- a value is there, and passes
abbrev pub is_some_and : {A : Type 0} → (A → Bool) → Option A → Bool
is_some_and test None = false
is_some_and test (Some x) = test x

-- the grant names another file system
unfoldable pub fails_fsname : Question → Grant → Bool
fails_fsname q g = is_some_and (λ name. not (bytes_eq name q.fs)) g.fsname

-- the grant has a uid, and the caller's uid is another
unfoldable pub fails_uid : Question → Grant → Bool
fails_uid q g = is_some_and (λ uid. not (uid == q.caller.uid)) g.uid

-- the grant lists gids, and none of the caller's gids is listed
unfoldable pub fails_gids : Question → Grant → Bool
fails_gids q g = not (length g.gids == 0) && (length (listed_gids q.caller g) == 0)

-- the grant's names are not a prefix of the path's names
unfoldable pub fails_path : Question → Grant → Bool
fails_path q g = not (starts_with bytes_eq q.path g.path)

-- the access is not to read, and the flags lack w
unfoldable pub fails_no_write : Question → Grant → Bool
fails_no_write q g = not (is_read q.access) && not (has_w g.flags)

-- the access is not to read, the grant squashes root, and the caller's uid or first gid is 0
unfoldable pub fails_root_squash : Question → Grant → Bool
fails_root_squash q g = not (is_read q.access) && g.root_squash && ((q.caller.uid == 0) || (q.caller.gid == 0))

-- the access is SetVxattr, and the flags lack p
unfoldable pub fails_no_p : Question → Grant → Bool
fails_no_p q g = is_set_vxattr q.access && not (has_p g.flags)

-- the access is Snapshot, and the flags lack s
unfoldable pub fails_no_s : Question → Grant → Bool
fails_no_s q g = is_snapshot q.access && not (has_s g.flags)

-- the grant has a uid, the access is Chmod, Chown or Chgrp, and the caller does not own the inode or gives it to another
unfoldable pub fails_not_owner : Question → Grant → Bool
fails_not_owner q g = is_some g.uid && changes_attr q.access && (not (is_owner q) || is_some_and (λ uid. not (uid == q.caller.uid)) (new_owner q.access))

-- the grant has a uid, and the access is Chgrp to a gid that is not one of the caller's that the grant lists
unfoldable pub fails_not_own_group : Question → Grant → Bool
fails_not_own_group q g = is_some g.uid && is_some_and (λ gid. not (contains (listed_gids q.caller g) gid)) (new_group q.access)

-- the grant has a uid, and the mode lacks the bit that the caller's class needs for the access
unfoldable pub fails_mode_bits : Question → Grant → Bool
fails_mode_bits q g = is_some g.uid && is_some_and (λ bit. not (has_bit q.attr.mode bit)) (needed_bit q.access (class_of q g))

-- the grant fails by the rule
abbrev pub fails : Rule → Question → Grant → Bool
fails rule.FsName q g = fails_fsname q g
fails rule.Uid q g = fails_uid q g
fails rule.Gids q g = fails_gids q g
fails rule.Path q g = fails_path q g
fails rule.NoWrite q g = fails_no_write q g
fails rule.RootSquash q g = fails_root_squash q g
fails rule.NoP q g = fails_no_p q g
fails rule.NoS q g = fails_no_s q g
fails rule.NotOwner q g = fails_not_owner q g
fails rule.NotOwnGroup q g = fails_not_own_group q g
fails rule.ModeBits q g = fails_mode_bits q g

-- the first rule by which the grant fails, if there is one
unfoldable pub first_failing : Question → Grant → Option Rule
first_failing q g = find (λ r. fails r q g) all_rules
