use Rattle.texts.specs.Watched.{has_failed, inner_of}
use Rattle.cli_queries.proofs.Unwritten.{refused_lint, refused_lint_by}
use Rattle.cli_queries.proofs.commands.lint.Goals as goal

pub returns-in_err-lines-in-Some-clause-fault : goal.returns-in_err-lines-in-Some-clause-fault
returns-in_err-lines-in-Some-clause-fault g c =
    let known = g.W.Write.contents (inner_of c.args.writer.now) in
    rw c.in-Some.is (refused_lint_by c.args.text.now known known (has_failed c.args.writer.now) c.in-Some.release c.in_err-lines-in-Some.field-0.0 c.from_residual.result c.in_err-lines-in-Some.ensures.err c.from_residual.ensures.1)

pub returns-in_err-lines-in-None-clause-fault : goal.returns-in_err-lines-in-None-clause-fault
returns-in_err-lines-in-None-clause-fault g c =
    let known = g.W.Write.contents (inner_of c.args.writer.now) in
    rw c.in-None.is (refused_lint c.args.text.now known known (has_failed c.args.writer.now) c.in_err-lines-in-None.field-0.0 c.from_residual-in_err-lines-in-None.result c.in_err-lines-in-None.ensures.err c.from_residual-in_err-lines-in-None.ensures.1)
