use Rattle.std.specs.Prelude.{refl}
use Rattle.inotree.specs.Tree.{names_up, path_of}
use Rattle.tests_core.proofs.ByNumber.{get-more, get-none}
use Rattle.tests_core.proofs.Unfolded.{rules}
use Rattle.tests_core.proofs.worked_cases.views.judged_by_the_last_of_each.Goals as goal

pub returns-clause-owner_writes : goal.returns-clause-owner_writes
unfolding rules names_up path_of
returns-clause-owner_writes c = simp get-more refl

pub returns-clause-owner_sets_the_mode : goal.returns-clause-owner_sets_the_mode
unfolding rules names_up path_of
returns-clause-owner_sets_the_mode c = simp get-more refl

pub returns-clause-owner_may_not_write : goal.returns-clause-owner_may_not_write
unfolding rules names_up path_of
returns-clause-owner_may_not_write c = simp get-more refl

pub returns-clause-owner_may_read : goal.returns-clause-owner_may_read
unfolding rules names_up path_of
returns-clause-owner_may_read c = simp get-more refl

pub returns-clause-another_writes : goal.returns-clause-another_writes
unfolding rules names_up path_of
returns-clause-another_writes c = simp get-more refl

pub returns-clause-another_may_not_set_the_mode : goal.returns-clause-another_may_not_set_the_mode
unfolding rules names_up path_of
returns-clause-another_may_not_set_the_mode c = simp get-more refl

pub returns-clause-reads_now : goal.returns-clause-reads_now
unfolding rules names_up path_of
returns-clause-reads_now c = simp (get-more, get-none) refl

pub returns-clause-as_before : goal.returns-clause-as_before
unfolding rules names_up path_of
returns-clause-as_before c = simp (get-more, get-none) refl

pub returns-clause-not_connected : goal.returns-clause-not_connected
unfolding rules names_up path_of
returns-clause-not_connected c = simp (get-more, get-none) refl

pub returns-clause-granted_again : goal.returns-clause-granted_again
unfolding rules names_up path_of
returns-clause-granted_again c = simp (get-more, get-none) refl
