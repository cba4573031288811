use Rattle.std.proofs.Common.{rules, List, ℕ, subst}
use Rattle.queries.specs.Mds.{IsMdsFault}
use Rattle.texts.specs.Watched.{has_failed, inner_of}
use Rattle.cli_queries.proofs.Unwritten.{missed_by, refused_asking, refused_by, told_by, unwritten_by}
use Rattle.cli_queries.proofs.commands.write_mds_answer.Goals as goal

pub returns-in_err-grants-clause-fault : goal.returns-in_err-grants-clause-fault
returns-in_err-grants-clause-fault g c =
    let known = g.W.Write.contents (inner_of c.args.writer.now) in
    refused_by c.args.release c.args.values.now known known (has_failed c.args.writer.now) c.in_err-grants.field-0.0 c.from_residual.result
    (subst (λ (text : List ℕ). IsMdsFault c.args.release text c.in_err-grants.field-0.0) c.as_slice.ensures.value c.in_err-grants.ensures.err) c.from_residual.ensures.1

pub returns-in_err-asking-clause-fault : goal.returns-in_err-asking-clause-fault
returns-in_err-asking-clause-fault g c =
    let known = g.W.Write.contents (inner_of c.args.writer.now) in
    refused_asking c.args.release c.args.values.now known known (has_failed c.args.writer.now) c.in_err-asking.field-0.0 c.from_residual-in_err-asking.result c.in_err-asking.ensures.err c.from_residual-in_err-asking.ensures.1

pub returns-in_err-answer-clause-fault : goal.returns-in_err-answer-clause-fault
returns-in_err-answer-clause-fault g c =
    let known = g.W.Write.contents (inner_of c.args.writer.now) in
    missed_by c.args.release c.args.values.now known known (has_failed c.args.writer.now) c.from_residual-in_err-answer.result c.from_residual-in_err-answer.ensures.1

pub returns-clause-answer : goal.returns-clause-answer
returns-clause-answer g c =
    told_by c.args.release c.args.values.now (g.W.Write.contents (inner_of c.args.writer.now)) (g.W.Write.contents (inner_of c.write_failed.new.writer)) c.args.form c.in_ok-asking.asking c.in_ok-grants.grants c.in_ok-answer.answer c.write_failed.result
    c.in_ok-asking.ensures.ok (search rules) (search rules) c.write_failed.ensures.answer

pub returns-clause-fault : goal.returns-clause-fault
returns-clause-fault g c =
    unwritten_by c.args.release c.args.values.now (g.W.Write.contents (inner_of c.args.writer.now)) (g.W.Write.contents (inner_of c.write_failed.new.writer)) (has_failed c.write_failed.new.writer) c.write_failed.result c.write_failed.ensures.err
