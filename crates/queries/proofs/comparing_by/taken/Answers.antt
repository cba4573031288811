use Rattle.std.proofs.Common.{refl, rules, subst}
use Rattle.policy_analysis.specs.ComparingBy.{terms_of}
use Rattle.policy_analysis.specs.StandIns.{IsNotCompared}
use Rattle.queries.proofs.comparing_by.taken.Goals as goal

pub returns-in-Err-TooLarge : goal.returns-in-Err-TooLarge
returns-in-Err-TooLarge c = (c.in-Ok.grants, c.in-Ok.ensures.ok, search rules)

pub returns-in-Err-LastSlash : goal.returns-in-Err-LastSlash
returns-in-Err-LastSlash c = (refl, (c.in-Ok.grants, c.in-Ok.ensures.ok, search rules))
