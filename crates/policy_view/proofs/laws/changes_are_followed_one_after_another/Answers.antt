use Rattle.policy_view.proofs.Telling.{changes-alike, changes-more, changes-none}
use Rattle.policy_view.proofs.laws.changes_are_followed_one_after_another.Goals as goal

pub returns-clause-none : goal.returns-clause-none
returns-clause-none c = changes-none

pub returns-clause-more : goal.returns-clause-more
returns-clause-more c = changes-more

pub returns-clause-alike : goal.returns-clause-alike
returns-clause-alike c = changes-alike
