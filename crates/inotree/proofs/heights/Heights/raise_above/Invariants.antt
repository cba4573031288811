use Rattle.inotree.specs.Heights.{HeightsRiseBut}
use Rattle.inotree.proofs.Rising.{ClimbsBehind}
use Rattle.inotree.proofs.heights.Heights.raise_above.Given as goal

abbrev pub invariant-loop : goal.invariant-loop
invariant-loop l = ClimbsBehind l.inodes l.counter l.at × HeightsRiseBut l.inodes l.self l.at
