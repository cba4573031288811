use Rattle.std.proofs.Common.{take}
use Rattle.std.specs.Prelude.{All}
use Rattle.policy_analysis.specs.Asking.{CoversGrant}
use Rattle.policy_analysis.proofs.search.Search.find.Given as goal

abbrev pub invariant-loop-grant : goal.invariant-loop-grant
invariant-loop-grant l = All (CoversGrant l.self.accesses l.self.old.now l.root) (take l.grant-index l.self.new.now)
