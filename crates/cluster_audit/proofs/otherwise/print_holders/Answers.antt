use Rattle.std.proofs.Common.{refl}
use Rattle.cluster_audit.specs.Audited.{clients_of}
use Rattle.cluster_audit.specs.Otherwise.{TellsOfHolder}
use Rattle.cluster_audit.proofs.Giving.{IsGiven, all_added, nothing_given, one_added}
use Rattle.cluster_audit.proofs.otherwise.print_holders.Goals as goal

pub loop-holder-init : goal.loop-holder-init
loop-holder-init c =
    let begun = c.args.lines.now.items in
    nothing_given (IsGiven (TellsOfHolder c.args.manner.detail (clients_of c.args.manner c.args.clients.now) c.args.inode.now) c.args.holders.now 0) begun begun refl (λ rest given. given)

pub loop-holder-preserved : goal.loop-holder-preserved
loop-holder-preserved c =
    one_added (TellsOfHolder c.args.manner.detail (clients_of c.args.manner c.args.clients.now) c.args.inode.now) c.args.holders.now c.loop-holder.holder-index c.holder-item.result c.args.lines.now.items c.loop-holder.lines.items c.print_holder.new.lines.items
    c.loop-holder-test.true c.holder-item.is c.loop-holder.invariant c.in_ok-print_holder.ensures

pub returns : goal.returns
returns c =
    all_added (TellsOfHolder c.args.manner.detail (clients_of c.args.manner c.args.clients.now) c.args.inode.now) c.args.holders.now c.loop-holder.holder-index c.args.lines.now.items c.loop-holder.lines.items
    c.loop-holder-test.false c.loop-holder.invariant
