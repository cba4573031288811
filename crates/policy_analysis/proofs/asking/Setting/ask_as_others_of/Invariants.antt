use Rattle.std.proofs.Common.{take}
use Rattle.policy_analysis.specs.Asking.{NoneAsOthersOf}
use Rattle.policy_analysis.proofs.asking.Setting.ask_as_others_of.Given as goal

abbrev pub invariant-loop-group : goal.invariant-loop-group
invariant-loop-group l = NoneAsOthersOf l.self l.caller (take l.group-index l.groups)
