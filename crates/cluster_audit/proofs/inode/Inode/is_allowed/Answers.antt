use Rattle.std.proofs.lemmas.Bool.{both_ways}
use Rattle.cluster_audit.proofs.Somebody.{if_allowed, if_not}
use Rattle.cluster_audit.proofs.inode.Inode.is_allowed.Goals as goal
use Rattle.cluster_audit.proofs.inode.Inode.is_allowed.Goals.{in-Allowed, in_default}

pub returns-clause-some : goal.returns-clause-some
returns-clause-some c = elim c.match-standing.branch [
  | in-Allowed w ↦ λ e. if_allowed c.args.self.now c.args.grants.now c.args.access c.standing.result _ c.standing.ensures w.in-Allowed.is
  | in_default w ↦ λ e. absurd (both_ways c.match-standing.result w.result-is e)
]

pub returns-clause-none : goal.returns-clause-none
returns-clause-none c = elim c.match-standing.branch [
  | in-Allowed w ↦ λ e. absurd (both_ways c.match-standing.result e w.result-is)
  | in_default w ↦ λ e. if_not c.args.self.now c.args.grants.now c.args.access c.standing.result c.standing.ensures w.in_default.not-Allowed
]
