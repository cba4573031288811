use Rattle.std.proofs.Common.{length}
use Rattle.release_grants.proofs.network.+share_bits.Given as goal

abbrev pub decreases-share_bits : goal.decreases-share_bits
decreases-share_bits l = length l.one.now
