use Rattle.std.proofs.Common.{sym, ◌∙◌}
use Rattle.queries.proofs.Marks.{closed_so, not_closed_behind, open_so}
use Rattle.queries.proofs.cuts.closed_behind.Goals as goal

pub returns-in_err-behind : goal.returns-in_err-behind
returns-in_err-behind c = rw c.from_residual.ensures (sym (not_closed_behind c.args.mark.now c.args.text.now (sym c.in_err-behind.ensures)))

pub returns-then-is_closed : goal.returns-then-is_closed
returns-then-is_closed c = sym (closed_so c.args.mark.now c.args.text.now c.in_ok-behind.behind.now (sym c.in_ok-behind.ensures) (sym c.is_closed.ensures ∙ c.if-is_closed.true))

pub returns-else-is_closed : goal.returns-else-is_closed
returns-else-is_closed c = sym (open_so c.args.mark.now c.args.text.now c.in_ok-behind.behind.now (sym c.in_ok-behind.ensures) (sym c.is_closed.ensures ∙ c.if-is_closed.false))
