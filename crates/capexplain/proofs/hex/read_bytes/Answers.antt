use Rattle.std.proofs.Common.{◌≡◌, true, false, [], ap, sym, ◌∙◌, codes}
use Rattle.std.specs.Prelude.{bytes_eq}
use Rattle.capexplain.specs.Events.Line.{Says}
use Rattle.capexplain.specs.Values.{hex_bytes}
use Rattle.capexplain.proofs.SaidLines.{missed}
use Rattle.capexplain.proofs.hex.read_bytes.Goals as goal

pub returns-in_err-read : goal.returns-in_err-read
returns-in_err-read c = λ event.
    let none : bytes_eq c.args.word.now (codes "-") ≡ true = ap (bytes_eq c.args.word.now) (sym c.as_slice.ensures) ∙ sym c.eq.ensures ∙ c.if-eq.true in
    rw none (missed c.from_residual.result _ (Says (event [])) c.from_residual.ensures.1 tt)

pub returns-in_err-bytes_of : goal.returns-in_err-bytes_of
returns-in_err-bytes_of c = λ event.
    let other : bytes_eq c.args.word.now (codes "-") ≡ false = ap (bytes_eq c.args.word.now) (sym c.as_slice.ensures) ∙ sym c.eq.ensures ∙ c.if-eq.false in
    rw (other, sym c.is_hex.ensures, c.if-not-is_hex.false) (missed c.from_residual-in_err-bytes_of.result _ (Says (event (hex_bytes c.args.word.now))) c.from_residual-in_err-bytes_of.ensures.1 tt)
