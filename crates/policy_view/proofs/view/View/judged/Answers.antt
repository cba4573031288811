use Rattle.std.proofs.Common.{sym, ◌∙◌}
use Rattle.capgrant.specs.Question.{question}
use Rattle.capgrant.specs.Verdict.{verdict_of}
use Rattle.policy_view.proofs.Answering.{here-path, judged_by}
use Rattle.policy_view.proofs.view.View.judged.Goals as goal

pub unreachable-requires : goal.unreachable-requires
unreachable-requires c = here-path c.args.self.now.tree.nodes c.args.question.now.ino.0 c.requires.here (sym c.path_of.ensures.path ∙ c.in_default.is)

pub returns : goal.returns
returns c =
    judged_by c.args.fs.now c.args.self.now c.args.question.now c.args.session.now c.in-Some.path c.in-Some-node.node.now c.verdict.result c.requires.session (sym c.in-Some.ensures.path) (sym c.in-Some-node.ensures.node)
    (c.verdict.ensures.exact ∙ (λ k. verdict_of (question c.args.fs.now c.args.session.now.caller (c.as_slice.ensures k) c.in-Some-node.node.now.attr c.args.question.now.access) (c.grants.ensures k)))
