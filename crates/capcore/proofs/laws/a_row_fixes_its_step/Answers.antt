use Rattle.capcore.proofs.Determined.{row-once}
use Rattle.capcore.proofs.laws.a_row_fixes_its_step.Goals as goal

pub returns-clause-moves : goal.returns-clause-moves
returns-clause-moves c = λ old new other e reply ended moves others order by by'.
    (row-once old e order moves others reply ended new other by by').0

pub returns-clause-state : goal.returns-clause-state
returns-clause-state c = λ old new other e reply ended order step step'.
    (row-once old e order step.0 step'.0 reply ended new other step.1 step'.1).1
