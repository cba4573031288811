use Rattle.tests_core.proofs.CapTexts.{contained, not_contained}
use Rattle.tests_core.proofs.worked_cases.cap_texts.joined_and_parted.Goals as goal

pub returns-clause-contains : goal.returns-clause-contains
returns-clause-contains c = contained

pub returns-clause-contains_not : goal.returns-clause-contains_not
returns-clause-contains_not c = not_contained
