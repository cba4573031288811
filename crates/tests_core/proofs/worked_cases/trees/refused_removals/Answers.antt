use Rattle.std.specs.Prelude.{refl}
use Rattle.inotree.specs.Tree.{descends}
use Rattle.tests_core.proofs.ByNumber.{entries-more, get-found, none}
use Rattle.tests_core.proofs.ByName.{count-more, count-none, snapshot-none}
use Rattle.tests_core.proofs.worked_cases.trees.refused_removals.Goals as goal

pub returns-clause-not_empty : goal.returns-clause-not_empty
unfolding descends
returns-clause-not_empty c = simp (get-found, entries-more, none) refl

pub returns-clause-root : goal.returns-clause-root
returns-clause-root c = simp (get-found, entries-more, none) refl

pub returns-clause-file : goal.returns-clause-file
returns-clause-file c = simp (get-found, entries-more, none) refl

pub returns-clause-has_a_snapshot : goal.returns-clause-has_a_snapshot
unfolding descends
returns-clause-has_a_snapshot c = simp (get-found, entries-more, none, count-none, count-more, snapshot-none) refl

pub returns-clause-empty : goal.returns-clause-empty
unfolding descends
returns-clause-empty c = simp (get-found, entries-more, none, count-none) refl

pub returns-clause-again : goal.returns-clause-again
returns-clause-again c = simp (get-found, entries-more, none) refl

pub returns-clause-unlinked_root : goal.returns-clause-unlinked_root
returns-clause-unlinked_root c = simp (get-found, entries-more, none) refl

pub returns-clause-unlinked_directory : goal.returns-clause-unlinked_directory
returns-clause-unlinked_directory c = simp (get-found, entries-more, none) refl

pub returns-clause-unlinked_file : goal.returns-clause-unlinked_file
returns-clause-unlinked_file c = simp (get-found, entries-more, none) refl

pub returns-clause-unlinked_again : goal.returns-clause-unlinked_again
returns-clause-unlinked_again c = simp (get-found, entries-more, none) refl
