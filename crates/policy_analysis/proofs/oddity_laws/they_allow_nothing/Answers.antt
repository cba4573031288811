use Rattle.policy_analysis.proofs.Odd.{large_uid, no_network, two_slashes}
use Rattle.policy_analysis.proofs.oddity_laws.they_allow_nothing.Goals as goal

pub returns-clause-network : goal.returns-clause-network
returns-clause-network c = no_network

pub returns-clause-uid : goal.returns-clause-uid
returns-clause-uid c = large_uid

pub returns-clause-path : goal.returns-clause-path
returns-clause-path c = two_slashes
