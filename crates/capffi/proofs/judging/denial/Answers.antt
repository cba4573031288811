use Rattle.capgrant.proofs.Verdicts.{allowed_nowhere}
use Rattle.capffi.proofs.judging.denial.Goals as goal

pub returns : goal.returns
returns c = rw c.first_failures.ensures (allowed_nowhere _ _ c.requires.none)
