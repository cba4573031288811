use Rattle.std.proofs.Common.{◌≡◌, ◌++◌, drop, map}
use Rattle.capspec.specs.Paths.{slashed}
use Rattle.capspec.proofs.tree_path.TreePath.of.Given as goal

abbrev pub invariant-loop-name : goal.invariant-loop-name
invariant-loop-name l = l.text.items ++ slashed (map (λ name. name.now) (drop l.name-index l.names)) ≡ slashed (map (λ name. name.now) l.names)
