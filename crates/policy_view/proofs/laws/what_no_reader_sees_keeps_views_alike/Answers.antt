use Rattle.policy_view.proofs.Likeness.{clients-unseen, like-settled, like-unseen}
use Rattle.policy_view.proofs.laws.what_no_reader_sees_keeps_views_alike.Goals as goal

pub returns-clause-inodes : goal.returns-clause-inodes
returns-clause-inodes c = like-unseen

pub returns-clause-sessions : goal.returns-clause-sessions
returns-clause-sessions c = clients-unseen

pub returns-clause-settled : goal.returns-clause-settled
returns-clause-settled c = like-settled
