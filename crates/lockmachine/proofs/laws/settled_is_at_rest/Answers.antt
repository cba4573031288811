use Rattle.lockmachine.proofs.Rest.{at_rest}
use Rattle.lockmachine.proofs.Exact.{settled}
use Rattle.lockmachine.proofs.Idle.{idle}
use Rattle.lockmachine.proofs.laws.settled_is_at_rest.Goals as goal

pub returns-clause-rest : goal.returns-clause-rest
returns-clause-rest c = at_rest

pub returns-clause-settled : goal.returns-clause-settled
returns-clause-settled c = settled

pub returns-clause-idle : goal.returns-clause-idle
returns-clause-idle c = idle
