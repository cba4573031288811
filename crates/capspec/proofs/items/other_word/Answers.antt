use Rattle.std.specs.Prelude.{codes}
use Rattle.capspec.proofs.Taken.{not_that, other_wrong}
use Rattle.capspec.proofs.items.other_word.Goals as goal

pub returns-else-eq : goal.returns-else-eq
returns-else-eq c = other_wrong c.args.text.now _ _ c.split_while.ensures (not_that _ (codes "network") _ c.eq.result c.eq.ensures c.as_slice.ensures c.if-eq.false)
