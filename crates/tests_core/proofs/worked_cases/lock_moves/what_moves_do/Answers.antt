use Rattle.std.specs.Prelude.{refl}
use Rattle.tests_core.proofs.ByNumber.{get-more}
use Rattle.tests_core.proofs.worked_cases.lock_moves.what_moves_do.Goals as goal

pub returns-clause-begins : goal.returns-clause-begins
returns-clause-begins c state to = simp get-more refl

pub returns-clause-ends : goal.returns-clause-ends
returns-clause-ends c state to = simp get-more refl
