use Rattle.std.proofs.Common.{◌≡◌, ◌+◌, ◌++◌, ℕ, List, length}
use Rattle.ceph_input.specs.Dump.{tree_left}
use Rattle.ceph_input.specs.Reader.{so_far}
use Rattle.ceph_input.proofs.growing.TreeReader.take.Given as goal

-- what is left of the piece, by what was read of it
abbrev pub invariant-loop-cut : goal.invariant-loop-cut
invariant-loop-cut l = record {
  read : (tail : List ℕ) → tree_left (so_far l.fn.self) (l.fn.chunk ++ tail) ≡ tree_left (so_far l.self) (l.rest ++ tail);
  byte : l.self.rows.byte + length l.rest ≡ l.fn.self.rows.byte + length l.fn.chunk;
}

abbrev pub decreases-loop-cut : goal.decreases-loop-cut
decreases-loop-cut l = length l.rest
