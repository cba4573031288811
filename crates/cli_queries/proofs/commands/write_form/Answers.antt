use Rattle.std.proofs.Common.{rules}
use Rattle.texts.specs.Watched.{has_failed, inner_of}
use Rattle.cli_queries.proofs.Unwritten.{refused_unwritten}
use Rattle.cli_queries.proofs.commands.write_form.Goals as goal

pub returns-in_err-grants-clause-fault : goal.returns-in_err-grants-clause-fault
returns-in_err-grants-clause-fault g c =
    refused_unwritten c.args.text.now (g.W.Write.contents (inner_of c.args.writer.now)) (has_failed c.args.writer.now) c.in_err-grants.field-0.0 c.from_residual.result (search rules) c.from_residual.ensures.1
