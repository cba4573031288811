use Rattle.std.proofs.Common.{refl, sym}
use Rattle.queries.proofs.before.said_before.Goals as goal

pub returns-in_err-before_in : goal.returns-in_err-before_in
returns-in_err-before_in c = rw (c.from_residual.ensures, sym c.in_err-before_in.ensures) refl

pub returns : goal.returns
returns c = rw (sym c.in_ok-before_in.ensures) c.read_before.ensures
