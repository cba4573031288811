use Rattle.cluster_audit.specs.Audited.{AddsTo, clients_of}
use Rattle.cluster_audit.specs.Otherwise.{TellsOfHolder}
use Rattle.cluster_audit.proofs.Giving.{IsGiven}
use Rattle.cluster_audit.proofs.otherwise.print_holders.Given as goal

abbrev pub invariant-loop-holder : goal.invariant-loop-holder
invariant-loop-holder l = AddsTo (IsGiven (TellsOfHolder l.manner.detail (clients_of l.manner l.clients) l.inode) l.holders l.holder-index) l.initial.lines.items l.lines.items
