use Rattle.std.proofs.Common.{◌≡◌, [], drop}
use Rattle.ceph_input.specs.Keyring.{unquoted}
use Rattle.ceph_input.proofs.quoted.read_unquoted.Given as goal

abbrev pub invariant-loop-place : goal.invariant-loop-place
invariant-loop-place l = unquoted l.text.items (drop l.place l.value) ≡ unquoted [] l.value
