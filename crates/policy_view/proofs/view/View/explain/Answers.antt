use Rattle.policy_view.proofs.Answering.{like-answer}
use Rattle.policy_view.proofs.view.View.explain.Goals as goal

pub returns : goal.returns
returns c real shows = like-answer c.args.fs.now c.args.self.now real c.args.question.now shows c.answer.result c.answer.ensures
