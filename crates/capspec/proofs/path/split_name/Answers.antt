use Rattle.std.proofs.Common.{◌∙◌, sym}
use Rattle.capspec.proofs.Paths.{first_name, no_name}
use Rattle.capspec.proofs.path.split_name.Goals as goal

pub returns-then-is_empty : goal.returns-then-is_empty
returns-then-is_empty c = no_name _ _ _ _ _ c.split_while.ensures c.split_while-2.ensures (sym c.is_empty.ensures ∙ c.if-is_empty.true)

pub returns-else-is_empty : goal.returns-else-is_empty
returns-else-is_empty c = first_name _ _ _ _ _ c.split_while.ensures c.split_while-2.ensures (sym c.is_empty.ensures ∙ c.if-is_empty.false)
