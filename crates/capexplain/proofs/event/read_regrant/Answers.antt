use Rattle.std.proofs.Common.{refl, sym}
use Rattle.capstep.specs.declared.event.Event.TheVariants as events
use Rattle.capexplain.specs.declared.refused.Refused.TheVariants as refusals
use Rattle.capexplain.specs.Events.Line.{Faulty}
use Rattle.capexplain.proofs.SaidLines.{refused_by, regranted}
use Rattle.capexplain.proofs.event.read_regrant.Goals as goal

pub returns-in_err-client : goal.returns-in_err-client
returns-in_err-client c =
    rw (regranted c.args.text.now c.in-Some._command.now c.in-Some.behind.now c.in-Some-split_at_space.client.now c.in-Some-split_at_space.grants.now c.in-Some.ensures c.in-Some-split_at_space.ensures, sym c.in_err-client.ensures)
    (refused_by _ _ (Faulty c.in_err-client.field-0.0) (refusals.Wrong c.in_err-client.field-0.0) c.from_residual.ensures.1 refl)

pub returns-in_err-grants : goal.returns-in_err-grants
returns-in_err-grants c =
    rw (regranted c.args.text.now c.in-Some._command.now c.in-Some.behind.now c.in-Some-split_at_space.client.now c.in-Some-split_at_space.grants.now c.in-Some.ensures c.in-Some-split_at_space.ensures, sym c.in_ok-client.ensures)
    (refused_by _ _ _ c.in_err-grants.field-0.0 c.from_residual-in_err-grants.ensures.1 (c.in_err-grants.ensures (events.Regrant c.in_ok-client.client)))

pub returns : goal.returns
returns c =
    rw (regranted c.args.text.now c.in-Some._command.now c.in-Some.behind.now c.in-Some-split_at_space.client.now c.in-Some-split_at_space.grants.now c.in-Some.ensures c.in-Some-split_at_space.ensures, sym c.in_ok-client.ensures)
    (c.in_ok-grants.ensures (events.Regrant c.in_ok-client.client))
