use Rattle.std.proofs.Common.{ap, ◌∙◌}
use Rattle.texts.specs.ScriptLines.{lines}
use Rattle.cli.specs.Jobs.{work_of}
use Rattle.cli.specs.Served.{IsUnserved, history_lines}
use Rattle.cli.proofs.Plans.{handed_on}
use Rattle.cli.proofs.Writing.{stopped_unserved}
use Rattle.cli.proofs.serving.serve_text.Goals as goal

pub returns-in_err-plan-clause-err : goal.returns-in_err-plan-clause-err
returns-in_err-plan-clause-err g c =
    handed_on _ (IsUnserved (lines c.args.script.now)) c.in_err-plan.field-0.0 c.from_residual.result c.from_residual.ensures.1 (stopped_unserved (lines c.args.script.now) c.in_err-plan.field-0.0 c.in_err-plan.ensures.fault)

pub returns-clause-text : goal.returns-clause-text
returns-clause-text g c = record {
  work = work_of c.in_ok-plan.plan;
  taken = c.in_ok-plan.ensures.work;
  rows = c.in_ok-core.core.rows;
  last = c.in_ok-core.core.state;
  history = c.in_ok-core.ensures.served;
  text_is = c.in_ok-text.ensures ∙ ap history_lines c.history.ensures.rows;
}
