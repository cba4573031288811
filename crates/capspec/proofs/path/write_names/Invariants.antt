use Rattle.std.proofs.Common.{◌≡◌, ◌++◌, length}
use Rattle.capspec.specs.Paths.{names_of, slashed}
use Rattle.capspec.proofs.path.write_names.Given as goal

abbrev pub invariant-loop-name : goal.invariant-loop-name
invariant-loop-name l = l.text.items ++ slashed (names_of l.rest) ≡ l.initial.text.items ++ slashed (names_of l.path)

abbrev pub decreases-loop-name : goal.decreases-loop-name
decreases-loop-name l = length (names_of l.rest)
