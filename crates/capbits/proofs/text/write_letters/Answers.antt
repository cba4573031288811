use Rattle.std.proofs.Common.{arith}
use Rattle.std.proofs.lemmas.Grind.{common_steps}
use Rattle.capbits.proofs.Spelling.{spelling}
use Rattle.capbits.proofs.text.write_letters.Goals as goal

pub loop-cap-init : goal.loop-cap-init
loop-cap-init c = grind (arith, common_steps, spelling)

pub loop-cap-preserved : goal.loop-cap-preserved
loop-cap-preserved c = grind (arith, common_steps, spelling)
