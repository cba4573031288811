use Rattle.std.proofs.Common.{◌≡◌, take}
use Rattle.capspec.proofs.grant.Grants.copy.Given as goal

abbrev pub invariant-loop-grant : goal.invariant-loop-grant
invariant-loop-grant l = l.grants.items ≡ take l.grant-index l.grant-items
