use Rattle.cluster_audit.proofs.Somebody.{must_deny}
use Rattle.cluster_audit.proofs.inode.Inode.each_reason.Goals as goal

pub unreachable-requires : goal.unreachable-requires
unreachable-requires c = must_deny c.args.self.now c.args.grants.now c.args.access c.standing.result c.standing.ensures c.requires c.in_default.not-Denied
