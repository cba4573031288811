use Rattle.std.proofs.Common.{arith, refl, sym}
use Rattle.capexplain.specs.declared.refused.Refused.TheVariants as refusals
use Rattle.capexplain.specs.Events.{change_event}
use Rattle.capexplain.specs.Events.Line.{Faulty}
use Rattle.capexplain.proofs.SaidLines.{first_two, refused_by}
use Rattle.capexplain.proofs.inode_event.read_inode_change.Goals as goal

pub returns-in_err-client : goal.returns-in_err-client
returns-in_err-client c =
    rw (first_two c.args.arguments.now (omega arith), sym c.is_counted.ensures, c.if-not-is_counted.false, sym c.in_err-client.ensures)
    (refused_by _ _ (Faulty c.in_err-client.field-0.0) (refusals.Wrong c.in_err-client.field-0.0) c.from_residual.ensures.1 refl)

pub returns-in_err-ino : goal.returns-in_err-ino
returns-in_err-ino c =
    rw (first_two c.args.arguments.now (omega arith), sym c.is_counted.ensures, c.if-not-is_counted.false, sym c.in_ok-client.ensures, sym c.in_err-ino.ensures)
    (refused_by _ _ (Faulty c.in_err-ino.field-0.0) (refusals.Wrong c.in_err-ino.field-0.0) c.from_residual-in_err-ino.ensures.1 refl)

pub returns-in_err-change : goal.returns-in_err-change
returns-in_err-change c =
    rw (first_two c.args.arguments.now (omega arith), sym c.is_counted.ensures, c.if-not-is_counted.false, sym c.in_ok-client.ensures, sym c.in_ok-ino.ensures)
    (refused_by _ _ _ c.in_err-change.field-0.0 c.from_residual-in_err-change.ensures.1 (c.in_err-change.ensures (change_event c.args.command c.in_ok-client.client c.in_ok-ino.ino)))
