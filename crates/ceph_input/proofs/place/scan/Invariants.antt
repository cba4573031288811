use Rattle.std.proofs.Common.{◌+◌, ◌≤◌}
use Rattle.ceph_input.specs.Rows.{depth_of}
use Rattle.ceph_input.proofs.ArrayText.{AreScanned}
use Rattle.ceph_input.proofs.place.scan.Given as goal

abbrev pub invariant-loop-i : goal.invariant-loop-i
invariant-loop-i l = record {
  depth : depth_of l.here ≤ depth_of l.fn.place + l.i;
  rows : AreScanned l.fn.place l.here l.bytes l.i;
}
