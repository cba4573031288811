use Rattle.policy_analysis.proofs.Unnamed.{looks_at_none, names_none}
use Rattle.policy_analysis.proofs.left_laws.a_grant_without_uid_looks_at_no_inode.Goals as goal

pub returns : goal.returns
returns c = λ q g allowed. (looks_at_none q g allowed, names_none q g)
