use Rattle.policy_analysis.proofs.InOrder.{none_where_read}
use Rattle.policy_analysis.proofs.unread_laws.nothing_is_reported_where_it_is_read.Goals as goal

pub returns : goal.returns
returns c = none_where_read
