use Rattle.std.proofs.Common.{◌≡◌, true, false, [], ap, sym, ◌∙◌, codes}
use Rattle.std.specs.Prelude.{bytes_eq}
use Rattle.capexplain.specs.Events.Line.{Says}
use Rattle.capexplain.proofs.SaidLines.{missed, text_refused}
use Rattle.capexplain.proofs.event.read_all_grants.Goals as goal

pub returns-in_err-none : goal.returns-in_err-none
returns-in_err-none c = λ event.
    let none : bytes_eq c.args.text.now (codes "none") ≡ true = ap (bytes_eq c.args.text.now) (sym c.as_slice.ensures) ∙ sym c.eq.ensures ∙ c.if-eq.true in
    rw none (missed c.from_residual.result _ (Says (event [])) c.from_residual.ensures.1 tt)

pub returns-in_err-grants : goal.returns-in_err-grants
returns-in_err-grants c = λ event.
    let other : bytes_eq c.args.text.now (codes "none") ≡ false = ap (bytes_eq c.args.text.now) (sym c.as_slice.ensures) ∙ sym c.eq.ensures ∙ c.if-eq.false in
    rw other (text_refused c.from_residual-in_err-grants.result _ event c.args.text.now c.in_err-grants.field-0.0 c.from_residual-in_err-grants.ensures.1 c.in_err-grants.ensures.fault)
