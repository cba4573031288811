use Rattle.std.proofs.Common.{[]}
use Rattle.capcore.proofs.Determined.{opening-order, same-ends, same-rows}
use Rattle.capcore.proofs.laws.the_same_events_have_the_same_history.Goals as goal

pub returns-clause-ends : goal.returns-clause-ends
returns-clause-ends c = λ fs tree first last end rows others is replays other same finds again.
    (same-ends first last end rows others (opening-order fs tree first is) replays other same finds again).0

pub returns-clause-state : goal.returns-clause-state
returns-clause-state c = λ fs tree first last end rows others is replays other same finds again.
    (same-ends first last end rows others (opening-order fs tree first is) replays other same finds again).1

pub returns-clause-rows : goal.returns-clause-rows
returns-clause-rows c = λ fs tree first last end rows others is legal other same passes finds again.
    same-rows [] rows others legal.numbered other.numbered passes same
    (same-ends first last end rows others (opening-order fs tree first is) legal.replays other.replays same finds again).0
