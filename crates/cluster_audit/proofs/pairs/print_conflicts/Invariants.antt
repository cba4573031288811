use Rattle.std.proofs.Common.{◌≡◌, ◌++◌, map, take, option_map}
use Rattle.std.specs.List.{flat_map}
use Rattle.cluster_audit.specs.Audited.{conflict_at}
use Rattle.cluster_audit.proofs.pairs.print_conflicts.Given as goal

abbrev pub invariant-loop-conflict : goal.invariant-loop-conflict
invariant-loop-conflict l = l.text.items ≡ l.initial.text.items ++ flat_map (conflict_at l.manner l.clients.sessions l.number (option_map (λ names. map (λ name. name.now) names.now) l.path)) (take l.conflict-index l.conflicts)
