use Rattle.std.proofs.Common.{take}
use Rattle.std.specs.Prelude.{All}
use Rattle.policy_analysis.specs.Asking.{NoneFor, with_group}
use Rattle.policy_analysis.proofs.asking.Setting.ask_for.Given as goal

abbrev pub invariant-loop-own : goal.invariant-loop-own
invariant-loop-own l = All (λ own. NoneFor l.self l.grant (with_group l.asker own) own) (take l.own-index l.gids)
