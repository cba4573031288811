use Rattle.std.proofs.Common.{◌≤◌}
use Rattle.ceph_input.specs.Rows.{depth_at}
use Rattle.ceph_input.proofs.ArrayText.{AreEntered}
use Rattle.ceph_input.proofs.outside.enter.Given as goal

abbrev pub invariant-loop-i : goal.invariant-loop-i
invariant-loop-i l = record {
  depth : depth_at l.here ≤ l.byte;
  rows : AreEntered l.fn.stage l.here l.byte l.chunk l.i;
}
