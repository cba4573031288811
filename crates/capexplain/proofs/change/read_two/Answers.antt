use Rattle.lockmachine.specs.declared.request.Change.TheVariants.{SetXattr}
use Rattle.capexplain.specs.declared.refused.Refused.TheVariants as refusals
use Rattle.capexplain.proofs.SaidLines.{refused_by}
use Rattle.capexplain.proofs.change.read_two.Goals as goal

pub returns-in_err-value : goal.returns-in_err-value
returns-in_err-value c = λ event.
    rw c.in-SetXattr.is (refused_by _ _ _ c.in_err-value.field-0.0 c.from_residual.ensures.1 (c.in_err-value.ensures (λ value. event (SetXattr c.args.name.now value))))

pub returns-in_err-name : goal.returns-in_err-name
returns-in_err-name c = λ event.
    rw c.in-SetXattr.is
    (refused_by _ _ _ refusals.NoMemory c.from_residual-in_err-name.ensures.1
    (event (SetXattr c.args.name.now c.in_ok-value.value), c.in_ok-value.ensures (λ value. event (SetXattr c.args.name.now value))))

pub returns : goal.returns
returns c = λ event. rw (c.in-SetXattr.is, c.in_ok-name.ensures) (c.in_ok-value.ensures (λ value. event (SetXattr c.args.name.now value)))
