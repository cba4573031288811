use Rattle.std.proofs.Common.{◌≡◌, false, take}
use Rattle.release_rules.specs.Verdicts.{may_mount}
use Rattle.release_rules.proofs.judging.may_mount.Given as goal

abbrev pub invariant-loop-grant : goal.invariant-loop-grant
invariant-loop-grant l = may_mount l.switches l.fs (take l.grant-index l.grants) ≡ false
