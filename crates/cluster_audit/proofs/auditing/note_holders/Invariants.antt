use Rattle.cluster_audit.specs.Audited.{Adds, SaysOf, clients_of}
use Rattle.cluster_audit.proofs.Reports.{IsBegun}
use Rattle.cluster_audit.proofs.auditing.note_holders.Given as goal

abbrev pub invariant-loop-holder : goal.invariant-loop-holder
invariant-loop-holder l = Adds (IsBegun (SaysOf (clients_of l.manner l.clients) l.number l.inode) l.holders l.holder-index) l.initial.notes l.notes
