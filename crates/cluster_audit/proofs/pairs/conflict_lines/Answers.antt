use Rattle.cluster_audit.specs.Audited.{SaysOfPairs}
use Rattle.cluster_audit.proofs.Giving.{all_given, one_given}
use Rattle.cluster_audit.proofs.pairs.conflict_lines.Goals as goal

pub loop-inode-preserved : goal.loop-inode-preserved
loop-inode-preserved c =
    let adds = c.in_ok-print_pairs.ensures in
    one_given (SaysOfPairs c.args.manner c.args.clients.now.sessions c.args.paths.now) c.args.inodes.now c.loop-inode.inode-index c.inode-item.result c.loop-inode.text.items c.print_pairs.new.text.items adds.0
    c.loop-inode-test.true c.inode-item.is c.loop-inode.invariant adds.1 adds.2

pub returns : goal.returns
returns c =
    all_given (SaysOfPairs c.args.manner c.args.clients.now.sessions c.args.paths.now) c.args.inodes.now c.loop-inode.inode-index c.loop-inode.text.items c.loop-inode-test.false c.loop-inode.invariant
