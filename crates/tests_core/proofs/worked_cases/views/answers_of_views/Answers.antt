use Rattle.tests_core.proofs.ViewAnswers.{is_answer}
use Rattle.tests_core.proofs.worked_cases.views.answers_of_views.Goals as goal

pub returns : goal.returns
returns c = is_answer
