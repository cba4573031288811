use Rattle.capcore.proofs.Common.{rejection-only, rejection-step}
use Rattle.capcore.proofs.laws.a_rejection_changes_nothing.Goals as goal

pub returns-clause-step : goal.returns-clause-step
returns-clause-step c = rejection-step

pub returns-clause-only : goal.returns-clause-only
returns-clause-only c = rejection-only
