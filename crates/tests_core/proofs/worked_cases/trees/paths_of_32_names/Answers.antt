use Rattle.std.specs.Prelude.{refl}
use Rattle.inotree.specs.Tree.{depth, descends, is_within, lies_below, names_up}
use Rattle.tests_core.proofs.ByNumber.{entries-more, get-more, none}
use Rattle.tests_core.proofs.Nested.{entries-nested, get-nested, last-nested, nested_at, rows, rows_behind}
use Rattle.tests_core.proofs.worked_cases.trees.paths_of_32_names.Goals as goal

pub returns-clause-one_more : goal.returns-clause-one_more
unfolding depth names_up nested_at rows rows_behind
returns-clause-one_more c = simp (last-nested, get-more, get-nested, entries-more, entries-nested, none) refl

pub returns-clause-one_more_by_dots : goal.returns-clause-one_more_by_dots
unfolding nested_at rows rows_behind
returns-clause-one_more_by_dots c = simp (last-nested, get-more, get-nested) refl

pub returns-clause-file_moves_down : goal.returns-clause-file_moves_down
unfolding is_within lies_below depth names_up descends nested_at rows rows_behind
returns-clause-file_moves_down c = simp (last-nested, get-more, get-nested, entries-more, entries-nested, none) refl

pub returns-clause-into_itself : goal.returns-clause-into_itself
unfolding is_within lies_below nested_at rows rows_behind
returns-clause-into_itself c = simp (last-nested, get-more, get-nested, entries-more, entries-nested, none) refl

pub returns-clause-one_less : goal.returns-clause-one_less
unfolding is_within lies_below depth names_up descends nested_at rows rows_behind
returns-clause-one_less c = simp (last-nested, get-more, get-nested, entries-more, entries-nested, none) refl
