use Rattle.texts.specs.Watched.{has_failed, inner_of}
use Rattle.cli_queries.proofs.Explained.{answered, stopped}
use Rattle.cli_queries.proofs.commands.explain.Goals as goal

pub returns-clause-answer : goal.returns-clause-answer
returns-clause-answer g c =
    answered c.args.explain_args.now c.fill.new.grants (g.R.Read.remaining (inner_of c.args.reader.now)) (g.W.Write.contents (inner_of c.args.writer.now)) (g.W.Write.contents (inner_of c.write_by.new.writer)) c.in_ok-fill.ensures.ok.1 c.write_by.result c.write_by.ensures.answer

pub returns-clause-err : goal.returns-clause-err
returns-clause-err g c =
    stopped c.args.explain_args.now c.fill.new.grants (g.R.Read.remaining (inner_of c.args.reader.now)) (g.W.Write.contents (inner_of c.args.writer.now)) (g.W.Write.contents (inner_of c.write_by.new.writer)) c.in_ok-fill.ensures.ok.1 (has_failed c.fill.new.reader) (has_failed c.write_by.new.writer) c.write_by.result c.in_ok-fill.ensures.ok.0 c.write_by.ensures.fault
