use Rattle.std.proofs.Common.{◌≡◌, false, take}
use Rattle.std.specs.List.{list_any}
use Rattle.release_grants.specs.Networks.{in_network, is_unknown}
use Rattle.policy_analysis.proofs.compare_by.MdsGrants.depend_on_address.Given as goal

abbrev pub invariant-loop-grant : goal.invariant-loop-grant
invariant-loop-grant l = list_any (λ g. is_unknown (in_network g.network l.self.terms.address)) (take l.grant-index l.self.grants) ≡ false
