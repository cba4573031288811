use Rattle.policy_view.proofs.Likeness.{like-attr, like-path, like-presence}
use Rattle.policy_view.proofs.Answering.{like-answer}
use Rattle.policy_view.proofs.laws.views_alike_answer_alike.Goals as goal

pub returns-clause-paths : goal.returns-clause-paths
returns-clause-paths c = like-path

pub returns-clause-presences : goal.returns-clause-presences
returns-clause-presences c = like-presence

pub returns-clause-attrs : goal.returns-clause-attrs
returns-clause-attrs c = like-attr

pub returns-clause-answers : goal.returns-clause-answers
returns-clause-answers c = λ fs copied real asked answer shows is. like-answer fs copied real asked shows answer is
