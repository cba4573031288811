use Rattle.std.proofs.Common.{◌≡◌, false, take}
use Rattle.osd_caps.specs.Opening.{opens_object}
use Rattle.osd_caps.proofs.grant.OsdCaps.opens_object.Given as goal

abbrev pub invariant-loop-grant : goal.invariant-loop-grant
invariant-loop-grant l = opens_object (take l.grant-index l.grants) l.pool l.namespace l.tags l.name l.right ≡ false
