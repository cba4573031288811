use Rattle.lockmachine.proofs.Ending.{ends-little, ends-then, few, little-then}
use Rattle.lockmachine.proofs.laws.between_servings_locks_move_little.Goals as goal

pub returns-clause-few : goal.returns-clause-few
returns-clause-few c = λ s t steps runs. few s steps t runs

pub returns-clause-then : goal.returns-clause-then
returns-clause-then c = little-then

pub returns-clause-ends : goal.returns-clause-ends
returns-clause-ends c = ends-little

pub returns-clause-ends_then : goal.returns-clause-ends_then
returns-clause-ends_then c = ends-then
