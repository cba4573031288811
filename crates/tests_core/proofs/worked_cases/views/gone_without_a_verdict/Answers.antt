use Rattle.std.specs.Prelude.{refl}
use Rattle.inotree.specs.Tree.{names_up, path_of}
use Rattle.tests_core.proofs.ByNumber.{get-less, get-more, get-none}
use Rattle.tests_core.proofs.Unfolded.{rules}
use Rattle.tests_core.proofs.worked_cases.views.gone_without_a_verdict.Goals as goal

pub returns-clause-stray : goal.returns-clause-stray
unfolding rules names_up path_of
returns-clause-stray c = simp get-more refl

pub returns-clause-stray_and_no_session : goal.returns-clause-stray_and_no_session
unfolding rules names_up path_of
returns-clause-stray_and_no_session c = simp (get-more, get-none) refl

pub returns-clause-gone : goal.returns-clause-gone
unfolding rules names_up path_of
returns-clause-gone c = simp (get-less, get-more) refl

pub returns-clause-client : goal.returns-clause-client
unfolding rules names_up path_of
returns-clause-client c = simp (get-less, get-more) refl

pub returns-clause-client_again : goal.returns-clause-client_again
unfolding rules names_up path_of
returns-clause-client_again c = simp get-more refl

pub returns-clause-directory_with_a_snapshot : goal.returns-clause-directory_with_a_snapshot
unfolding rules names_up path_of
returns-clause-directory_with_a_snapshot c = simp (get-less, get-more) refl

pub returns-clause-another_directory : goal.returns-clause-another_directory
unfolding rules names_up path_of
returns-clause-another_directory c = simp get-more refl
