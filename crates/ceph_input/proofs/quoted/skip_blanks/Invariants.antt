use Rattle.std.proofs.Common.{◌≡◌, length}
use Rattle.ceph_input.specs.Keyring.{from_text}
use Rattle.ceph_input.proofs.quoted.skip_blanks.Given as goal

abbrev pub invariant-loop-rest : goal.invariant-loop-rest
invariant-loop-rest l = from_text l.rest ≡ from_text l.line

abbrev pub decreases-loop-rest : goal.decreases-loop-rest
decreases-loop-rest l = length l.rest
