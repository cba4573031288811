use Rattle.capspec.specs.SharedPrefix.{IsAlike}
use Rattle.capspec.proofs.kept.most_alike.Given as goal

abbrev pub invariant-loop-other : goal.invariant-loop-other
invariant-loop-other l = IsAlike l.grants l.place l.most
