use Rattle.std.proofs.Common.{List, None, ℕ, ap, ◌∙◌}
use Rattle.queries.specs.Remarks.{remarked_answer, remarked_object}
use Rattle.texts.specs.Watched.{has_failed, inner_of}
use Rattle.cli_queries.proofs.Unwritten.{line_unwritten, missed_unwritten, refused_question, text_unwritten, told_all, told_object}
use Rattle.cli_queries.proofs.commands.write_answer.Goals as goal

pub returns-in_err-question-clause-fault : goal.returns-in_err-question-clause-fault
returns-in_err-question-clause-fault g c =
    refused_question c.args.values.now (g.W.Write.contents (inner_of c.args.writer.now)) (has_failed c.args.writer.now) c.in_err-question.field-0.0 c.from_residual.result c.in_err-question.ensures.err c.from_residual.ensures.1

pub returns-in_err-line-in-Line-clause-fault : goal.returns-in_err-line-in-Line-clause-fault
returns-in_err-line-in-Line-clause-fault g c =
    missed_unwritten c.args.values.now c.in_ok-question.question (g.W.Write.contents (inner_of c.args.writer.now)) (has_failed c.args.writer.now) c.from_residual-in_err-line-in-Line.result c.in_ok-question.ensures.ok c.from_residual-in_err-line-in-Line.ensures.1

pub returns-in-Line-clause-fault : goal.returns-in-Line-clause-fault
returns-in-Line-clause-fault g c =
    line_unwritten c.args.values.now c.in_ok-question.question (g.W.Write.contents (inner_of c.args.writer.now)) (g.W.Write.contents (inner_of c.write_line.new.writer)) (has_failed c.write_line.new.writer) c.write_line.result c.in_ok-question.ensures.ok c.write_line.ensures.err

pub returns-in_err-is_allowed-in-Status-clause-fault : goal.returns-in_err-is_allowed-in-Status-clause-fault
returns-in_err-is_allowed-in-Status-clause-fault g c =
    missed_unwritten c.args.values.now c.in_ok-question.question (g.W.Write.contents (inner_of c.args.writer.now)) (has_failed c.args.writer.now) c.from_residual-in_err-is_allowed-in-Status.result c.in_ok-question.ensures.ok c.from_residual-in_err-is_allowed-in-Status.ensures.1

pub returns-in_err-lines-in-More-clause-fault : goal.returns-in_err-lines-in-More-clause-fault
returns-in_err-lines-in-More-clause-fault g c =
    missed_unwritten c.args.values.now c.in_ok-question.question (g.W.Write.contents (inner_of c.args.writer.now)) (has_failed c.args.writer.now) c.from_residual-in_err-lines-in-More.result c.in_ok-question.ensures.ok c.from_residual-in_err-lines-in-More.ensures.1

pub returns-in_err-object-in-Object-clause-fault : goal.returns-in_err-object-in-Object-clause-fault
returns-in_err-object-in-Object-clause-fault g c =
    missed_unwritten c.args.values.now c.in_ok-question.question (g.W.Write.contents (inner_of c.args.writer.now)) (has_failed c.args.writer.now) c.from_residual-in_err-object-in-Object.result c.in_ok-question.ensures.ok c.from_residual-in_err-object-in-Object.ensures.1

pub returns-in-More-clause-answer : goal.returns-in-More-clause-answer
returns-in-More-clause-answer g c =
    let q = c.in_ok-question.question in
    told_all _ c.args.form c.args.values.now q (g.W.Write.contents (inner_of c.args.writer.now)) (g.W.Write.contents (inner_of c.write_text.new.writer)) c.as_slice-in-More.result.now c.write_text.result c.in-More.is c.in_ok-question.ensures.ok
    (c.as_slice-in-More.ensures.value ∙ c.in_ok-lines-in-More.ensures ∙ ap (λ (text : List ℕ). remarked_answer text q) c.as_slice.ensures.value) c.write_text.ensures.status c.write_text.ensures.ok

pub returns-in-More-clause-fault : goal.returns-in-More-clause-fault
returns-in-More-clause-fault g c =
    text_unwritten c.args.values.now (g.W.Write.contents (inner_of c.args.writer.now)) (g.W.Write.contents (inner_of c.write_text.new.writer)) (has_failed c.write_text.new.writer) c.write_text.result c.write_text.ensures.err

pub returns-in-Object-clause-fault : goal.returns-in-Object-clause-fault
returns-in-Object-clause-fault g c =
    text_unwritten c.args.values.now (g.W.Write.contents (inner_of c.args.writer.now)) (g.W.Write.contents (inner_of c.write_text-in-Object.new.writer)) (has_failed c.write_text-in-Object.new.writer) c.write_text-in-Object.result c.write_text-in-Object.ensures.err

pub returns-in-Object-clause-answer : goal.returns-in-Object-clause-answer
returns-in-Object-clause-answer g c =
    let q = c.in_ok-question.question in
    told_object _ c.args.form c.args.values.now q (g.W.Write.contents (inner_of c.args.writer.now)) (g.W.Write.contents (inner_of c.write_text-in-Object.new.writer)) c.as_slice-in-Object-2.result.now c.write_text-in-Object.result c.in-Object.is c.in_ok-question.ensures.ok
    (c.as_slice-in-Object-2.ensures.value ∙ c.in_ok-object-in-Object.ensures ∙ ap (λ (text : List ℕ). remarked_object None text q) c.as_slice-in-Object.ensures.value) c.write_text-in-Object.ensures.status c.write_text-in-Object.ensures.ok
