use Rattle.std.specs.Prelude.{refl}
use Rattle.tests_core.proofs.ByNumber.{entries-more, get-found, none}
use Rattle.tests_core.proofs.worked_cases.trees.strays_are_gone.Goals as goal

pub returns-clause-made_in : goal.returns-clause-made_in
returns-clause-made_in c = simp (get-found, entries-more, none) refl

pub returns-clause-moved_into : goal.returns-clause-moved_into
returns-clause-moved_into c = simp (get-found, entries-more, none) refl

pub returns-clause-size : goal.returns-clause-size
returns-clause-size c = simp (get-found, entries-more, none) refl

pub returns-clause-snapshot : goal.returns-clause-snapshot
returns-clause-snapshot c = simp (get-found, entries-more, none) refl
