use Rattle.capcore.proofs.ShownWords.{all-takes_unshown, shows-pending, takes-only_so}
use Rattle.capcore.proofs.shown_laws.what_was_shown_is_what_is_pending.Goals as goal

pub returns-clause-shows : goal.returns-clause-shows
returns-clause-shows c = shows-pending

pub returns-clause-takes : goal.returns-clause-takes
returns-clause-takes c = all-takes_unshown

pub returns-clause-takes_only_so : goal.returns-clause-takes_only_so
returns-clause-takes_only_so c = takes-only_so
