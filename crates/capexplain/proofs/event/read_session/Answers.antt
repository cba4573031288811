use Rattle.std.proofs.Common.{arith, refl, sym}
use Rattle.capstep.specs.declared.event.Event.TheVariants as events
use Rattle.capexplain.specs.declared.refused.Refused.TheVariants as refusals
use Rattle.capexplain.specs.Events.Line.{Faulty}
use Rattle.capexplain.proofs.SaidLines.{five, refused_by}
use Rattle.capexplain.proofs.event.read_session.Goals as goal

pub returns-in_err-client : goal.returns-in_err-client
returns-in_err-client c =
    rw (five c.args.arguments.now (omega arith), sym c.in_err-client.ensures)
    (refused_by _ _ (Faulty c.in_err-client.field-0.0) (refusals.Wrong c.in_err-client.field-0.0) c.from_residual.ensures.1 refl)

pub returns-in_err-read_number : goal.returns-in_err-read_number
returns-in_err-read_number c =
    rw (five c.args.arguments.now (omega arith), sym c.in_ok-client.ensures, sym c.in_err-read_number.ensures)
    (refused_by _ _ (Faulty c.in_err-read_number.field-0.0) (refusals.Wrong c.in_err-read_number.field-0.0) c.from_residual-in_err-read_number.ensures.1 refl)

pub returns-in_err-read_number-2 : goal.returns-in_err-read_number-2
returns-in_err-read_number-2 c =
    rw (five c.args.arguments.now (omega arith), sym c.in_ok-client.ensures, sym c.in_ok-read_number.ensures, sym c.in_err-read_number-2.ensures)
    (refused_by _ _ (Faulty c.in_err-read_number-2.field-0.0) (refusals.Wrong c.in_err-read_number-2.field-0.0) c.from_residual-in_err-read_number-2.ensures.1 refl)

pub returns-in_err-read_groups : goal.returns-in_err-read_groups
returns-in_err-read_groups c =
    rw (five c.args.arguments.now (omega arith), sym c.in_ok-client.ensures, sym c.in_ok-read_number.ensures, sym c.in_ok-read_number-2.ensures, sym c.in_err-read_groups.ensures)
    (refused_by _ _ (Faulty c.in_err-read_groups.field-0.0) (refusals.Wrong c.in_err-read_groups.field-0.0) c.from_residual-in_err-read_groups.ensures.1 refl)

pub returns-in_err-grants : goal.returns-in_err-grants
returns-in_err-grants c =
    rw (five c.args.arguments.now (omega arith), sym c.in_ok-client.ensures, sym c.in_ok-read_number.ensures, sym c.in_ok-read_number-2.ensures, sym c.in_ok-read_groups.ensures)
    (refused_by _ _ _ c.in_err-grants.field-0.0 c.from_residual-in_err-grants.ensures.1
    (c.in_err-grants.ensures (events.Session c.in_ok-client.client (record { uid = c.in_ok-read_number.field-0; gid = c.in_ok-read_number-2.field-0; groups = c.in_ok-read_groups.field-0 }))))

pub returns : goal.returns
returns c =
    rw (five c.args.arguments.now (omega arith), sym c.in_ok-client.ensures, sym c.in_ok-read_number.ensures, sym c.in_ok-read_number-2.ensures, sym c.in_ok-read_groups.ensures)
    (c.in_ok-grants.ensures (events.Session c.in_ok-client.client (record { uid = c.in_ok-read_number.field-0; gid = c.in_ok-read_number-2.field-0; groups = c.in_ok-read_groups.field-0 })))
