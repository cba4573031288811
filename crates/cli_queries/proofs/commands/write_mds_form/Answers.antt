use Rattle.texts.specs.Watched.{has_failed, inner_of}
use Rattle.cli_queries.proofs.Unwritten.{missed_form, unwritten_form, with_form, without_form}
use Rattle.cli_queries.proofs.commands.write_mds_form.Goals as goal

pub returns-in_err-form-clause-fault : goal.returns-in_err-form-clause-fault
returns-in_err-form-clause-fault g c =
    let known = g.W.Write.contents (inner_of c.args.writer.now) in
    missed_form c.args.release c.args.text.now known known (has_failed c.args.writer.now) c.from_residual.result c.from_residual.ensures.1

pub returns-in-Ok-clause-form : goal.returns-in-Ok-clause-form
returns-in-Ok-clause-form g c =
    with_form c.args.release c.args.text.now (g.W.Write.contents (inner_of c.args.writer.now)) (g.W.Write.contents (inner_of c.write_line.new.writer)) (has_failed c.write_line.new.writer) _ c.in-Ok.form _ _ c.write_line.result
    c.switches.ensures c.in_ok-form.ensures c.in-Ok.is c.write_line.ensures.ok

pub returns-in-Ok-clause-fault : goal.returns-in-Ok-clause-fault
returns-in-Ok-clause-fault g c =
    unwritten_form c.args.release c.args.text.now (g.W.Write.contents (inner_of c.args.writer.now)) (g.W.Write.contents (inner_of c.write_line.new.writer)) (has_failed c.write_line.new.writer) c.write_line.result c.write_line.ensures.err

pub returns-in-Err-clause-fault : goal.returns-in-Err-clause-fault
returns-in-Err-clause-fault g c =
    let known = g.W.Write.contents (inner_of c.args.writer.now) in
    without_form c.args.release c.args.text.now known known (has_failed c.args.writer.now) _ _ _ c.form_fault.result
    c.switches.ensures c.in_ok-form.ensures c.in-Err.is c.form_fault.ensures
