use Rattle.std.proofs.Common.{◌≡◌, ◌++◌, take}
use Rattle.std.specs.List.{flat_map}
use Rattle.cluster_audit.specs.Audited.{pathless_of}
use Rattle.cluster_audit.proofs.holders.print_pathless_holders.Given as goal

abbrev pub invariant-loop-holder : goal.invariant-loop-holder
invariant-loop-holder l = l.text.items ≡ l.initial.text.items ++ flat_map (pathless_of l.shape l.clients.sessions l.number) (take l.holder-index l.holders)
