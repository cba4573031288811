use Rattle.byte_sets.specs.declared.sets.ByteSet.TheVariants.{BarePath}
use Rattle.byte_sets.proofs.Splits.{splits_behind}
use Rattle.byte_sets.proofs.sets.split_bare_path.Goals as goal

pub returns : goal.returns
returns c =
    splits_behind BarePath c.args.text.now c.split_at.result.1.now c.split_while.result.0.now c.split_while.result.1.now _ _ c.measure_bare_blocks-whole.result c.measure_bare_blocks-whole.ensures.all_in c.split_at.ensures.back c.split_while.ensures
    c.split_at-2.ensures.front c.split_at-2.ensures.back
