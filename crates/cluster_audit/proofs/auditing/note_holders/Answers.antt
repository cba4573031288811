use Rattle.std.proofs.Common.{refl}
use Rattle.cluster_audit.specs.Audited.{SaysOf, clients_of}
use Rattle.cluster_audit.proofs.Noting.{nothing_added}
use Rattle.cluster_audit.proofs.Reports.{IsBegun, none_yet, one_added, all_added}
use Rattle.cluster_audit.proofs.auditing.note_holders.Goals as goal

pub loop-holder-init : goal.loop-holder-init
loop-holder-init c =
    let says = SaysOf (clients_of c.args.manner c.args.clients.now) c.args.number c.args.inode.now in
    nothing_added (IsBegun says c.args.holders.now 0) c.args.notes.now c.args.notes.now refl refl (none_yet says c.args.holders.now)

pub loop-holder-preserved : goal.loop-holder-preserved
loop-holder-preserved c =
    one_added (SaysOf (clients_of c.args.manner c.args.clients.now) c.args.number c.args.inode.now) c.args.holders.now c.loop-holder.holder-index c.holder-item.result c.args.notes.now c.loop-holder.notes c.note_holder.new.notes
    c.loop-holder-test.true c.holder-item.is c.loop-holder.invariant c.in_ok-note_holder.ensures

pub returns : goal.returns
returns c =
    all_added (SaysOf (clients_of c.args.manner c.args.clients.now) c.args.number c.args.inode.now) c.args.holders.now c.loop-holder.holder-index c.args.notes.now c.loop-holder.notes
    c.loop-holder-test.false c.loop-holder.invariant
