use Rattle.capcore.proofs.Determined.{opening-order, rows-once}
use Rattle.capcore.proofs.laws.rows_fix_the_state.Goals as goal

pub returns-clause-opening : goal.returns-clause-opening
returns-clause-opening c = λ fs tree first last end rows is. rows-once first last end rows (opening-order fs tree first is)

pub returns-clause-on_the_way : goal.returns-clause-on_the_way
returns-clause-on_the_way c = rows-once
