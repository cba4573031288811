use Rattle.cluster_audit.specs.Audited.{SaysOfInode, clients_of}
use Rattle.cluster_audit.proofs.Reports.{one_noted, all_said}
use Rattle.cluster_audit.proofs.auditing.note_inodes.Goals as goal

pub loop-inode-preserved : goal.loop-inode-preserved
loop-inode-preserved c =
    one_noted (SaysOfInode c.args.fs.now (clients_of c.args.manner c.args.clients.now) c.args.paths.now) c.args.inodes.now c.loop-inode.inode-index c.inode-item.result c.loop-inode.notes c.note_inode.new.notes
    c.loop-inode-test.true c.inode-item.is c.loop-inode.invariant c.in_ok-note_inode.ensures

pub returns : goal.returns
returns c =
    all_said (SaysOfInode c.args.fs.now (clients_of c.args.manner c.args.clients.now) c.args.paths.now) c.args.inodes.now c.loop-inode.inode-index c.loop-inode.notes.found.items c.loop-inode.notes.unknown.items
    c.loop-inode-test.false c.loop-inode.invariant
