use Rattle.std.proofs.Common.{◌≡◌, drop}
use Rattle.serde_json.specs.View.{items_view}
use Rattle.ceph_input.specs.Dump.{with_fragments}
use Rattle.ceph_input.proofs.naming.add_directory.Given as goal

abbrev pub invariant-loop-fragment : goal.invariant-loop-fragment
invariant-loop-fragment l = with_fragments l.paths (items_view (drop l.fragment-index l.fragments)) ≡ with_fragments l.initial.paths (items_view l.fragments)
