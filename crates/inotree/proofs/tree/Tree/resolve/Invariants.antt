use Rattle.std.proofs.Common.{◌≡◌, Some, map, drop, Bor, List, ℕ}
use Rattle.inotree.specs.Tree.{follow}
use Rattle.inotree.proofs.tree.Tree.resolve.Given as goal

abbrev pub invariant-loop-name : goal.invariant-loop-name
invariant-loop-name l = follow l.self.nodes (Some 1) (map (λ (name : Bor (List ℕ)). name.now) l.names) ≡ follow l.self.nodes (Some l.ino.0) (map (λ (name : Bor (List ℕ)). name.now) (drop l.name-index l.names))
