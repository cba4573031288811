use Rattle.std.proofs.Common.{arith, refl, sym}
use Rattle.capexplain.specs.declared.refused.Refused.TheVariants as refusals
use Rattle.capexplain.specs.Events.Line.{Faulty}
use Rattle.capexplain.proofs.SaidLines.{refused_by, two}
use Rattle.capexplain.proofs.entry_event.read_poll.Goals as goal

pub returns-in_err-client : goal.returns-in_err-client
returns-in_err-client c =
    rw (two c.args.arguments.now (omega arith), sym c.in_err-client.ensures)
    (refused_by _ _ (Faulty c.in_err-client.field-0.0) (refusals.Wrong c.in_err-client.field-0.0) c.from_residual.ensures.1 refl)

pub returns-in_err-max : goal.returns-in_err-max
returns-in_err-max c =
    rw (two c.args.arguments.now (omega arith), sym c.in_ok-client.ensures, sym c.in_err-max.ensures)
    (refused_by _ _ (Faulty c.in_err-max.field-0.0) (refusals.Wrong c.in_err-max.field-0.0) c.from_residual-in_err-max.ensures.1 refl)

pub returns : goal.returns
returns c =
    rw (two c.args.arguments.now (omega arith), sym c.in_ok-client.ensures, sym c.in_ok-max.ensures) refl
