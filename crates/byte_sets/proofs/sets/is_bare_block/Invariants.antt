use Rattle.std.proofs.Common.{◌≡◌, take}
use Rattle.std.specs.List.{list_all}
use Rattle.byte_sets.specs.Sets.{is_in}
use Rattle.byte_sets.specs.declared.sets.ByteSet.TheVariants.{BarePath}
use Rattle.byte_sets.proofs.sets.is_bare_block.Given as goal

abbrev pub invariant-loop-byte : goal.invariant-loop-byte
invariant-loop-byte l = l.is_all ≡ list_all (is_in BarePath) (take l.byte-index l.block)
