use Rattle.std.proofs.Common.{◌≡◌, false, take}
use Rattle.osd_caps.specs.Opening.{opens}
use Rattle.osd_caps.proofs.grant.any_opens.Given as goal

abbrev pub invariant-loop-grant : goal.invariant-loop-grant
invariant-loop-grant l = opens (take l.grant-index l.grants) l.pool l.namespace l.tags l.right ≡ false
