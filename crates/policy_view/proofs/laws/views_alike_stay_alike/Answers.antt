use Rattle.policy_view.proofs.Likeness.{shows-refl, shows-trans, shows_by}
use Rattle.policy_view.proofs.laws.views_alike_stay_alike.Goals as goal

pub returns-clause-stay : goal.returns-clause-stay
returns-clause-stay c = shows_by

pub returns-clause-itself : goal.returns-clause-itself
returns-clause-itself c = shows-refl

pub returns-clause-through : goal.returns-clause-through
returns-clause-through c = shows-trans
