use Rattle.capcore.proofs.EntryStep.{one-step}
use Rattle.capcore.proofs.step_laws.an_event_is_a_step_once_it_has_ended.Goals as goal

pub returns : goal.returns
returns c = λ old new e moves settled last reply settles ends answers is. one-step old e moves settled last settles ends reply new answers is
