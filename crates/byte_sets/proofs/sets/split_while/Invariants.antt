use Rattle.std.proofs.Common.{◌≡◌, true, take}
use Rattle.std.specs.List.{list_all}
use Rattle.byte_sets.specs.Sets.{is_in}
use Rattle.byte_sets.proofs.sets.split_while.Given as goal

abbrev pub invariant-loop-at : goal.invariant-loop-at
invariant-loop-at l = list_all (is_in l.set) (take l.at l.text) ≡ true
