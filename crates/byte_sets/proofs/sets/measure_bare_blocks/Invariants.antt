use Rattle.std.proofs.Common.{◌≡◌, ◌+◌, true, length, take, drop}
use Rattle.std.specs.List.{list_all}
use Rattle.byte_sets.specs.Sets.{is_in}
use Rattle.byte_sets.specs.declared.sets.ByteSet.TheVariants.{BarePath}
use Rattle.byte_sets.proofs.sets.measure_bare_blocks.Given as goal

abbrev pub invariant-loop-block : goal.invariant-loop-block
invariant-loop-block l = (l.len + length l.rest ≡ length l.text) × (l.rest ≡ drop l.len l.text) × (list_all (is_in BarePath) (take l.len l.text) ≡ true)

abbrev pub decreases-loop-block : goal.decreases-loop-block
decreases-loop-block l = length l.rest
