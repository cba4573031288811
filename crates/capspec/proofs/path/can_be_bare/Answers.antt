use Rattle.std.proofs.Common.{◌∙◌, sym}
use Rattle.byte_sets.specs.declared.sets.ByteSet.TheVariants.{BarePath}
use Rattle.capspec.proofs.Slashed.{split_all}
use Rattle.capspec.proofs.path.can_be_bare.Goals as goal

pub returns : goal.returns
returns c = c.is_empty.ensures ∙ sym (split_all BarePath c.args.path.now _ c.split_while.result.1.now c.split_while.ensures)
