use Rattle.std.specs.Prelude.{refl}
use Rattle.inotree.specs.Tree.{names_up, path_of}
use Rattle.tests_core.proofs.ByNumber.{get-more, get-none}
use Rattle.tests_core.proofs.Unfolded.{rules}
use Rattle.tests_core.proofs.worked_cases.views.judged_where_it_stands.Goals as goal

pub returns-clause-in_its_path : goal.returns-clause-in_its_path
unfolding rules names_up path_of
returns-clause-in_its_path c = simp get-more refl

pub returns-clause-out_of_it : goal.returns-clause-out_of_it
unfolding rules names_up path_of
returns-clause-out_of_it c = simp get-more refl

pub returns-clause-anywhere : goal.returns-clause-anywhere
unfolding rules names_up path_of
returns-clause-anywhere c = simp get-more refl

pub returns-clause-no_inode : goal.returns-clause-no_inode
unfolding rules names_up path_of
returns-clause-no_inode c = simp (get-more, get-none) refl

pub returns-clause-no_session : goal.returns-clause-no_session
unfolding rules names_up path_of
returns-clause-no_session c = simp (get-more, get-none) refl

pub returns-clause-neither : goal.returns-clause-neither
unfolding rules names_up path_of
returns-clause-neither c = simp (get-more, get-none) refl

pub returns-clause-moved_out : goal.returns-clause-moved_out
unfolding rules names_up path_of
returns-clause-moved_out c = simp get-more refl

pub returns-clause-moved_anywhere : goal.returns-clause-moved_anywhere
unfolding rules names_up path_of
returns-clause-moved_anywhere c = simp get-more refl

pub returns-clause-moved_in_with_its_directory : goal.returns-clause-moved_in_with_its_directory
unfolding rules names_up path_of
returns-clause-moved_in_with_its_directory c = simp get-more refl
