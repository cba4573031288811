use Rattle.std.specs.Prelude.{refl}
use Rattle.inotree.specs.Tree.{depth, names_up}
use Rattle.tests_core.proofs.ByNumber.{entries-more, get-found, len-listed, none}
use Rattle.tests_core.proofs.worked_cases.trees.refused_makings.Goals as goal

pub returns-clause-first : goal.returns-clause-first
unfolding depth names_up
returns-clause-first c = simp (get-found, entries-more, none, len-listed) refl

pub returns-clause-second : goal.returns-clause-second
unfolding depth names_up
returns-clause-second c = simp (get-found, entries-more, none, len-listed) refl

pub returns-clause-nowhere : goal.returns-clause-nowhere
returns-clause-nowhere c = simp (get-found, entries-more, none) refl

pub returns-clause-in_a_file : goal.returns-clause-in_a_file
returns-clause-in_a_file c = simp (get-found, entries-more, none) refl

pub returns-clause-by_dots : goal.returns-clause-by_dots
returns-clause-by_dots c = simp (get-found, entries-more, none) refl

pub returns-clause-name_is_taken : goal.returns-clause-name_is_taken
returns-clause-name_is_taken c = simp (get-found, entries-more, none) refl
