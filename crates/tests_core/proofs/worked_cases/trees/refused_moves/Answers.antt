use Rattle.std.specs.Prelude.{refl}
use Rattle.inotree.specs.Tree.{depth, descends, is_within, lies_below, names_up}
use Rattle.tests_core.proofs.ByNumber.{entries-more, get-found, none}
use Rattle.tests_core.proofs.worked_cases.trees.refused_moves.Goals as goal

pub returns-clause-below_itself : goal.returns-clause-below_itself
unfolding is_within lies_below
returns-clause-below_itself c = simp (get-found, entries-more, none) refl

pub returns-clause-below_itself_by_dots : goal.returns-clause-below_itself_by_dots
returns-clause-below_itself_by_dots c = simp (get-found, entries-more, none) refl

pub returns-clause-root : goal.returns-clause-root
returns-clause-root c = simp (get-found, entries-more, none) refl

pub returns-clause-root_nowhere : goal.returns-clause-root_nowhere
returns-clause-root_nowhere c = simp (get-found, entries-more, none) refl

pub returns-clause-nothing_nowhere : goal.returns-clause-nothing_nowhere
returns-clause-nothing_nowhere c = simp (get-found, entries-more, none) refl

pub returns-clause-into_a_file : goal.returns-clause-into_a_file
returns-clause-into_a_file c = simp (get-found, entries-more, none) refl

pub returns-clause-to_where_it_is : goal.returns-clause-to_where_it_is
returns-clause-to_where_it_is c = simp (get-found, entries-more, none) refl

pub returns-clause-into_itself : goal.returns-clause-into_itself
returns-clause-into_itself c = simp (get-found, entries-more, none) refl

pub returns-clause-up : goal.returns-clause-up
unfolding is_within lies_below depth names_up descends
returns-clause-up c = simp (get-found, entries-more, none) refl
