use Rattle.std.proofs.Common.{◌≡◌, ◌++◌, drop, map}
use Rattle.capspec.specs.Paths.{slashed}
use Rattle.texts.proofs.explain_text.print_names.Given as goal

abbrev pub invariant-loop-name : goal.invariant-loop-name
invariant-loop-name l = l.line.items ++ slashed (map (λ name. name.now) (drop l.name-index l.names)) ≡ l.initial.line.items ++ slashed (map (λ name. name.now) l.names)
