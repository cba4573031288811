use Rattle.std.proofs.Common.{take}
use Rattle.policy_analysis.specs.Asking.{GainsNone}
use Rattle.policy_analysis.proofs.asking.Setting.ask_each.Given as goal

abbrev pub invariant-loop-access : goal.invariant-loop-access
invariant-loop-access l = GainsNone l.self l.caller l.attr (take l.access-index l.accesses)
