use Rattle.capcore.proofs.OneChange.{exist-after, last-after, presence-after}
use Rattle.capcore.proofs.serving_laws.a_serving_keeps_what_exists.Goals as goal

pub returns-clause-exist : goal.returns-clause-exist
returns-clause-exist c = λ s q o ino ends. exist-after s q o ends ino

pub returns-clause-others : goal.returns-clause-others
returns-clause-others c = λ s q o ino ends off. presence-after s q o ends ino off

pub returns-clause-last : goal.returns-clause-last
returns-clause-last c = λ s q o ends. last-after s q o ends
