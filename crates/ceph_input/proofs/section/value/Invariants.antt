use Rattle.std.proofs.Common.{◌≡◌, length, drop, false}
use Rattle.ceph_input.specs.Keyring.{lines, value_in}
use Rattle.ceph_input.proofs.section.value.Given as goal

abbrev pub invariant-loop-line : goal.invariant-loop-line
invariant-loop-line l = value_in l.head l.is_inside (drop (length l.yielded) (lines l.keyring)) ≡ value_in l.head false (lines l.keyring)
