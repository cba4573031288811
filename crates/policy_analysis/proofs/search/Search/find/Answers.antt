use Rattle.std.proofs.Common.{sym}
use Rattle.std.proofs.lemmas.Option.{MatchOption-at_none}
use Rattle.policy_analysis.specs.Comparing.{IsWitness}
use Rattle.policy_analysis.specs.Asking.{CoversGrant}
use Rattle.policy_analysis.proofs.Loops.{all_of, one_more}
use Rattle.policy_analysis.proofs.Witnesses.{each_covers_all}
use Rattle.policy_analysis.proofs.search.Search.find.Goals as goal

pub find_by-requires : goal.find_by-requires
find_by-requires c = (c.loop-grant.grant-index, c.loop-grant-test.true, sym c.grant-item.is)

pub loop-grant-preserved : goal.loop-grant-preserved
loop-grant-preserved c = one_more (CoversGrant c.args.self.now.accesses c.args.self.now.old.now c.args.root) c.args.self.now.new.now c.loop-grant.grant-index c.grant-item.result c.loop-grant-test.true c.grant-item.is c.loop-grant.invariant
    (MatchOption-at_none (CoversGrant c.args.self.now.accesses c.args.self.now.old.now c.args.root c.grant-item.result) (IsWitness c.args.self.now.old.now c.args.self.now.new.now) c.in_default.is c.in_ok-witness.ensures.exact)

pub returns-clause-exact : goal.returns-clause-exact
returns-clause-exact c = each_covers_all c.args.self.now.accesses c.args.self.now.old.now c.args.self.now.new.now c.args.root (all_of (CoversGrant c.args.self.now.accesses c.args.self.now.old.now c.args.root) c.args.self.now.new.now c.loop-grant.grant-index c.loop-grant-test.false c.loop-grant.invariant)
