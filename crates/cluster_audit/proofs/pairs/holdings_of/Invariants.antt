use Rattle.cluster_audit.specs.Audited.{Holds}
use Rattle.cluster_audit.proofs.Giving.{IsGiven}
use Rattle.cluster_audit.proofs.pairs.holdings_of.Given as goal

abbrev pub invariant-loop-holder : goal.invariant-loop-holder
invariant-loop-holder l = IsGiven Holds l.holders l.holder-index l.holdings.items
