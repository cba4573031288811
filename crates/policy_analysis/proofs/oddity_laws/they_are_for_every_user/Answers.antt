use Rattle.policy_analysis.proofs.Odd.{anybody, gids_alone, zero_uid}
use Rattle.policy_analysis.proofs.oddity_laws.they_are_for_every_user.Goals as goal

pub returns-clause-zero : goal.returns-clause-zero
returns-clause-zero c = zero_uid

pub returns-clause-gids : goal.returns-clause-gids
returns-clause-gids c = gids_alone

pub returns-clause-anybody : goal.returns-clause-anybody
returns-clause-anybody c = anybody
