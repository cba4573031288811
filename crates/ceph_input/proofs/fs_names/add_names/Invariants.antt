use Rattle.std.proofs.Common.{◌≡◌, drop}
use Rattle.ceph_input.specs.FsNames.{named_by, with_names}
use Rattle.ceph_input.proofs.fs_names.add_names.Given as goal

abbrev pub invariant-loop-grant : goal.invariant-loop-grant
invariant-loop-grant l = with_names l.names.items (named_by (drop l.grant-index l.grants)) ≡ with_names l.initial.names.items (named_by l.grants)
