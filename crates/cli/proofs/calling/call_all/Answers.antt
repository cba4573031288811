use Rattle.std.proofs.Common.{ap, ◌∙◌, arith, length}
use Rattle.std.specs.List.{sum_by}
use Rattle.cli.specs.Jobs.{job_events, work_of}
use Rattle.cli.proofs.NewPasses.{first_called_none, most_called, others_called_none}
use Rattle.cli.proofs.calling.call_all.Goals as goal

pub tasks_of-requires-clause-new : goal.tasks_of-requires-clause-new
tasks_of-requires-clause-new g c = ap (λ ps. sum_by (λ p. p.calls) ps) c.remove-first_pass.ensures.items ∙ others_called_none c.args.passes.items c.requires.new

pub returns-then-not-answered-clause-most : goal.returns-then-not-answered-clause-most
returns-then-not-answered-clause-most g c =
    let passes = c.args.passes.items in
    let none = first_called_none c.remove-first_pass.result passes (omega (arith, c.requires.many)) c.requires.new c.remove-first_pass.ensures.value in
    let others_none = ap (λ ps. sum_by (λ p. p.calls) ps) c.remove-first_pass.ensures.items ∙ others_called_none passes c.requires.new in
    most_called c.remove-first_pass.result c.call_events-pass.result.pass c.remove-first_pass.new.self.items c.push.new.self.items (length c.args.plan.first.items) (job_events (work_of c.args.plan).jobs) none others_none c.in_ok-push.ensures.items
    c.call_events-pass.ensures.most
