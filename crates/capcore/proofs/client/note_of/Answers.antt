use Rattle.std.proofs.Common.{sym, ◌∙◌}
use Rattle.capcore.proofs.Noting.{notes-ended, notes-regranted, notes-unseen}
use Rattle.capcore.proofs.client.note_of.Goals as goal

pub returns-then-is_end : goal.returns-then-is_end
returns-then-is_end c = notes-ended c.args.client c.args.change (sym c.is_end.ensures ∙ c.if-is_end.true)

pub returns-in_ok-of_regrant-in-Some : goal.returns-in_ok-of_regrant-in-Some
returns-in_ok-of_regrant-in-Some c = rw c.in_ok-of_regrant-in-Some.ensures (notes-regranted c.args.client c.args.change _ (sym c.in-Some.ensures))

pub returns-in-None : goal.returns-in-None
returns-in-None c = notes-unseen c.args.client c.args.change (sym c.is_end.ensures ∙ c.if-is_end.false) (sym c.in-None.ensures)
