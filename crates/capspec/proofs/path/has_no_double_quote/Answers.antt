use Rattle.std.proofs.Common.{◌∙◌, sym}
use Rattle.byte_sets.specs.declared.sets.ByteSet.TheVariants.{AllBut}
use Rattle.capspec.proofs.Slashed.{split_all}
use Rattle.capspec.proofs.path.has_no_double_quote.Goals as goal

pub returns : goal.returns
returns c = c.is_empty.ensures ∙ sym (split_all (AllBut 34) c.args.path.now _ c.split_while.result.1.now c.split_while.ensures)
