use Rattle.sessiontab.proofs.Elsewhere.{session-other, session-stays}
use Rattle.sessiontab.proofs.laws.a_new_session_changes_no_other.Goals as goal

pub returns-clause-others : goal.returns-clause-others
returns-clause-others c = session-other

pub returns-clause-connected : goal.returns-clause-connected
returns-clause-connected c = session-stays
