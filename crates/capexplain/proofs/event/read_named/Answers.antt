use Rattle.std.proofs.Common.{arith, refl, sym}
use Rattle.std.proofs.lemmas.Grind.{common_steps}
use Rattle.capexplain.specs.declared.refused.Refused.TheVariants as refusals
use Rattle.capexplain.specs.Events.Line.{Faulty}
use Rattle.capexplain.proofs.SaidLines.{missed, refused_by, three}
use Rattle.capexplain.proofs.event.read_named.Goals as goal

pub returns-in_err-client : goal.returns-in_err-client
returns-in_err-client c =
    rw (three c.args.arguments.now (omega arith), sym c.in_err-client.ensures)
    (refused_by _ _ (Faulty c.in_err-client.field-0.0) (refusals.Wrong c.in_err-client.field-0.0) c.from_residual.ensures.1 refl)

pub returns-in_err-ino : goal.returns-in_err-ino
returns-in_err-ino c =
    rw (three c.args.arguments.now (omega arith), sym c.in_ok-client.ensures, sym c.in_err-ino.ensures)
    (refused_by _ _ (Faulty c.in_err-ino.field-0.0) (refusals.Wrong c.in_err-ino.field-0.0) c.from_residual-in_err-ino.ensures.1 refl)

pub returns-in_err-name : goal.returns-in_err-name
returns-in_err-name c = missed _ _ _ c.from_residual-in_err-name.ensures.1 (grind (arith, common_steps))
