use Rattle.std.proofs.Common.{◌≡◌, false, take}
use Rattle.std.specs.List.{list_any}
use Rattle.policy_analysis.specs.StandIns.{names}
use Rattle.policy_analysis.proofs.stand_ins.name_fs.Given as goal

abbrev pub invariant-loop-grant : goal.invariant-loop-grant
invariant-loop-grant l = list_any (names l.fs) (take l.grant-index l.grants) ≡ false
