use Rattle.std.proofs.Common.{sym}
use Rattle.std.proofs.lemmas.Option.{MatchOption-at_none}
use Rattle.policy_analysis.specs.Linting.{IsUndoing}
use Rattle.policy_analysis.specs.Squashing.{KeepsAgainst}
use Rattle.policy_analysis.proofs.Loops.{all_of, one_more}
use Rattle.policy_analysis.proofs.Undoing.{keeps_all}
use Rattle.policy_analysis.proofs.squash.undoing.Goals as goal

pub undoing_by-requires-clause-among : goal.undoing_by-requires-clause-among
undoing_by-requires-clause-among c = (c.loop-other.other-index, c.loop-other-test.true, sym c.other-item.is)

pub loop-other-preserved : goal.loop-other-preserved
loop-other-preserved c = one_more (KeepsAgainst c.args.grant.now) c.args.grants.now c.loop-other.other-index c.other-item.result c.loop-other-test.true c.other-item.is c.loop-other.invariant
    (MatchOption-at_none (KeepsAgainst c.args.grant.now c.other-item.result) (IsUndoing c.args.grants.now c.args.grant.now) c.in_default.is c.in_ok-witness.ensures)

pub returns : goal.returns
returns c = keeps_all c.args.grants.now c.args.grant.now (all_of (KeepsAgainst c.args.grant.now) c.args.grants.now c.loop-other.other-index c.loop-other-test.false c.loop-other.invariant)
