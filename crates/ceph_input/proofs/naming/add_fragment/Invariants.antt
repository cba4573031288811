use Rattle.std.proofs.Common.{◌≡◌, drop}
use Rattle.serde_json.specs.View.{items_view}
use Rattle.ceph_input.specs.Dump.{with_dentries}
use Rattle.ceph_input.proofs.naming.add_fragment.Given as goal

abbrev pub invariant-loop-dentry : goal.invariant-loop-dentry
invariant-loop-dentry l = with_dentries l.paths (items_view (drop l.dentry-index l.dentries)) ≡ with_dentries l.initial.paths (items_view l.dentries)
