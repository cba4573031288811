use Rattle.policy_analysis.proofs.StandsFor.{lists_alike}
use Rattle.policy_analysis.proofs.stands_for_laws.lists_that_stand_for_others_are_judged_alike.Goals as goal

pub returns : goal.returns
returns c = lists_alike
