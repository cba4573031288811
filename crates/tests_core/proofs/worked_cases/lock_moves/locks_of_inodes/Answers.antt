use Rattle.std.specs.Prelude.{refl}
use Rattle.tests_core.proofs.ByNumber.{get-less, get-more, get-none}
use Rattle.tests_core.proofs.Unfolded.{steps}
use Rattle.tests_core.proofs.worked_cases.lock_moves.locks_of_inodes.Goals as goal

pub returns-clause-no_inode : goal.returns-clause-no_inode
unfolding steps
returns-clause-no_inode c = simp (get-less, get-more, get-none) refl

pub returns-clause-auth : goal.returns-clause-auth
unfolding steps
returns-clause-auth c = simp (get-less, get-more, get-none) refl

pub returns-clause-link : goal.returns-clause-link
unfolding steps
returns-clause-link c = simp (get-less, get-more, get-none) refl

pub returns-clause-xattr : goal.returns-clause-xattr
unfolding steps
returns-clause-xattr c = simp (get-less, get-more, get-none) refl

pub returns-clause-file_data : goal.returns-clause-file_data
unfolding steps
returns-clause-file_data c = simp (get-less, get-more, get-none) refl

pub returns-clause-last_of_all : goal.returns-clause-last_of_all
unfolding steps
returns-clause-last_of_all c = simp (get-less, get-more, get-none) refl

pub returns-clause-last_is_forgotten : goal.returns-clause-last_is_forgotten
unfolding steps
returns-clause-last_is_forgotten c = simp (get-less, get-more, get-none) refl

pub returns-clause-forgotten_in_vain : goal.returns-clause-forgotten_in_vain
unfolding steps
returns-clause-forgotten_in_vain c = simp (get-less, get-more, get-none) refl

pub returns-clause-forgotten : goal.returns-clause-forgotten
unfolding steps
returns-clause-forgotten c = simp (get-less, get-more, get-none) refl

pub returns-clause-another_is_left : goal.returns-clause-another_is_left
unfolding steps
returns-clause-another_is_left c = simp (get-less, get-more, get-none) refl

pub returns-clause-made_again : goal.returns-clause-made_again
unfolding steps
returns-clause-made_again c = simp (get-less, get-more, get-none) refl
