use Rattle.std.specs.Prelude.{refl}
use Rattle.tests_core.proofs.worked_cases.tables.as_many_as_there_may_be.Goals as goal

pub returns-clause-no_more : goal.returns-clause-no_more
returns-clause-no_more c table k none full = simp (none, full) refl

pub returns-clause-one_more : goal.returns-clause-one_more
returns-clause-one_more c table k none room made = simp (none, room, made) refl

pub returns-clause-has_one : goal.returns-clause-has_one
returns-clause-has_one c table k e one = simp (one) refl

pub returns-clause-no_more_nodes : goal.returns-clause-no_more_nodes
returns-clause-no_more_nodes c lists full = simp (full) refl

pub returns-clause-one_more_node : goal.returns-clause-one_more_node
returns-clause-one_more_node c lists room = simp (room) refl
