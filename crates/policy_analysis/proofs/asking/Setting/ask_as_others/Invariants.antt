use Rattle.std.proofs.Common.{take}
use Rattle.std.specs.Prelude.{All}
use Rattle.policy_analysis.specs.Asking.{NoneAsOthersOf}
use Rattle.policy_analysis.proofs.asking.Setting.ask_as_others.Given as goal

abbrev pub invariant-loop-grant : goal.invariant-loop-grant
invariant-loop-grant l = All (λ h. NoneAsOthersOf l.self l.caller h.gids) (take l.grant-index l.self.old)
