use Rattle.std.specs.Prelude.{refl}
use Rattle.tests_core.proofs.ByNumber.{entries-more, get-found, none}
use Rattle.tests_core.proofs.ByName.{count-none, snapshot-more, snapshot-none, value-count-none, value-more, value-none}
use Rattle.tests_core.proofs.worked_cases.trees.refused_settings.Goals as goal

pub returns-clause-size_of_a_directory : goal.returns-clause-size_of_a_directory
returns-clause-size_of_a_directory c = simp (get-found, entries-more, none) refl

pub returns-clause-size : goal.returns-clause-size
returns-clause-size c = simp (get-found, entries-more, none) refl

pub returns-clause-no_name : goal.returns-clause-no_name
returns-clause-no_name c = simp (get-found, entries-more, none) refl

pub returns-clause-attribute : goal.returns-clause-attribute
returns-clause-attribute c = simp (get-found, entries-more, none, value-none, value-count-none) refl

pub returns-clause-another_is_removed : goal.returns-clause-another_is_removed
returns-clause-another_is_removed c = simp (get-found, entries-more, none, value-none, value-more) refl

pub returns-clause-is_removed : goal.returns-clause-is_removed
returns-clause-is_removed c = simp (get-found, entries-more, none, value-more) refl

pub returns-clause-snapshot_of_a_file : goal.returns-clause-snapshot_of_a_file
returns-clause-snapshot_of_a_file c = simp (get-found, entries-more, none) refl

pub returns-clause-snapshot : goal.returns-clause-snapshot
returns-clause-snapshot c = simp (get-found, entries-more, none, snapshot-none, count-none) refl

pub returns-clause-snapshot_twice : goal.returns-clause-snapshot_twice
returns-clause-snapshot_twice c = simp (get-found, entries-more, none, snapshot-more) refl

pub returns-clause-another_goes : goal.returns-clause-another_goes
returns-clause-another_goes c = simp (get-found, entries-more, none, snapshot-none, snapshot-more) refl

pub returns-clause-snapshot_goes : goal.returns-clause-snapshot_goes
returns-clause-snapshot_goes c = simp (get-found, entries-more, none, snapshot-more) refl
