use Rattle.std.specs.Prelude.{refl}
use Rattle.tests_core.proofs.ByNumber.{contains-more, contains-none}
use Rattle.tests_core.proofs.worked_cases.kept_lists.sets_and_paths.Goals as goal

pub returns-clause-inodes : goal.returns-clause-inodes
returns-clause-inodes c = simp (contains-more, contains-none) refl
