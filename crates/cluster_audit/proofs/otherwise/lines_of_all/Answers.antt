use Rattle.cluster_audit.specs.Audited.{clients_of}
use Rattle.cluster_audit.specs.Otherwise.{TellsOfInode}
use Rattle.cluster_audit.proofs.Giving.{all_given, one_given}
use Rattle.cluster_audit.proofs.otherwise.lines_of_all.Goals as goal

pub loop-inode-preserved : goal.loop-inode-preserved
loop-inode-preserved c =
    let adds = c.in_ok-print_inode.ensures in
    one_given (TellsOfInode c.args.fs.now (clients_of c.args.manner c.args.clients.now) c.args.paths.now) c.args.inodes.now c.loop-inode.inode-index c.inode-item.result c.loop-inode.lines.items c.print_inode.new.lines.items adds.0
    c.loop-inode-test.true c.inode-item.is c.loop-inode.invariant adds.1 adds.2

pub returns : goal.returns
returns c =
    all_given (TellsOfInode c.args.fs.now (clients_of c.args.manner c.args.clients.now) c.args.paths.now) c.args.inodes.now c.loop-inode.inode-index c.loop-inode.lines.items c.loop-inode-test.false c.loop-inode.invariant
