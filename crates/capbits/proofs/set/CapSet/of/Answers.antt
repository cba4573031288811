use Rattle.std.proofs.Common.{arith}
use Rattle.std.proofs.lemmas.Grind.{common_steps}
use Rattle.capbits.proofs.SetBits.{caps_in-push}
use Rattle.capbits.proofs.set.CapSet.of.Goals as goal

pub loop-cap-preserved : goal.loop-cap-preserved
loop-cap-preserved c = grind (arith, common_steps, caps_in-push)
