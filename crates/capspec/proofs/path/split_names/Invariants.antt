use Rattle.std.proofs.Common.{◌≡◌, ◌++◌, length, map}
use Rattle.capspec.specs.Paths.{names_of}
use Rattle.capspec.proofs.path.split_names.Given as goal

abbrev pub invariant-loop-name : goal.invariant-loop-name
invariant-loop-name l = map (λ name. name.now) l.names.items ++ names_of l.rest ≡ names_of l.path

abbrev pub decreases-loop-name : goal.decreases-loop-name
decreases-loop-name l = length (names_of l.rest)
