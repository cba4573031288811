use Rattle.std.proofs.Common.{◌≡◌, length}
use Rattle.ceph_input.specs.Rows.{unindented}
use Rattle.ceph_input.proofs.outside.unindented.Given as goal

abbrev pub invariant-loop-rest : goal.invariant-loop-rest
invariant-loop-rest l = unindented l.rest ≡ unindented l.item

abbrev pub decreases-loop-rest : goal.decreases-loop-rest
decreases-loop-rest l = length l.rest
