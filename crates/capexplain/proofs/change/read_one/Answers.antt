use Rattle.lockmachine.specs.declared.request.Change.TheVariants.{RemoveXattr}
use Rattle.capexplain.specs.Events.Line.{Says}
use Rattle.capexplain.proofs.SaidLines.{missed}
use Rattle.capexplain.proofs.change.read_one.Goals as goal

pub returns-in_err-read-in-RemoveXattr : goal.returns-in_err-read-in-RemoveXattr
returns-in_err-read-in-RemoveXattr c = λ event.
    rw c.in-RemoveXattr.is (missed c.from_residual-in_err-read-in-RemoveXattr.result _ (Says (event (RemoveXattr c.args.word.now))) c.from_residual-in_err-read-in-RemoveXattr.ensures.1 tt)
