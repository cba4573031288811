use Rattle.std.specs.Prelude.{refl}
use Rattle.inotree.specs.Tree.{names_up, path_of}
use Rattle.tests_core.proofs.ByNumber.{entries-more, get-found, none}
use Rattle.tests_core.proofs.Nested.{leads, leads_nowhere}
use Rattle.tests_core.proofs.worked_cases.trees.where_inodes_stand.Goals as goal

pub returns-clause-by_names : goal.returns-clause-by_names
returns-clause-by_names c = leads

pub returns-clause-in_its_directory : goal.returns-clause-in_its_directory
returns-clause-in_its_directory c = simp (get-found, entries-more, none) refl

pub returns-clause-directory : goal.returns-clause-directory
returns-clause-directory c = simp (get-found, entries-more, none) refl

pub returns-clause-path : goal.returns-clause-path
unfolding path_of names_up
returns-clause-path c = simp (get-found, entries-more, none) refl

pub returns-clause-stray : goal.returns-clause-stray
returns-clause-stray c = simp (get-found, entries-more, none) refl

pub returns-clause-last : goal.returns-clause-last
returns-clause-last c = refl

pub returns-clause-owner_group_and_mode : goal.returns-clause-owner_group_and_mode
returns-clause-owner_group_and_mode c = simp (get-found, entries-more, none) refl

pub returns-clause-not_by_names : goal.returns-clause-not_by_names
returns-clause-not_by_names c = leads_nowhere

pub returns-clause-no_path : goal.returns-clause-no_path
unfolding path_of names_up
returns-clause-no_path c = simp (get-found, entries-more, none) refl

pub returns-clause-next : goal.returns-clause-next
returns-clause-next c = refl
