use Rattle.std.proofs.Common.{◌≡◌, false, take}
use Rattle.std.specs.List.{list_any}
use Rattle.policy_analysis.specs.StandIns.{mounts_each}
use Rattle.policy_analysis.proofs.stand_ins.mount_each.Given as goal

abbrev pub invariant-loop-grant : goal.invariant-loop-grant
invariant-loop-grant l = list_any (mounts_each l.switches) (take l.grant-index l.grants) ≡ false
