use Rattle.std.proofs.Common.{[], arith}
use Rattle.capspec.proofs.Sharing.{next_size}
use Rattle.capspec.proofs.shared_prefix.within.Goals as goal

pub loop-at-preserved : goal.loop-at-preserved
loop-at-preserved c = record {
  count = omega (arith, c.loop-at-test.true);
  fits = omega (arith, c.loop-at.invariant.fits, c.if-bytes-at.false);
  size = omega (arith, c.loop-at.invariant.size, next_size c.args.names.now c.loop-at.at.count (record { ref_ptr = (0, 0); now = [] }) (omega (arith, c.loop-at-test.true, c.requires)));
}
