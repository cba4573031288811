use Rattle.std.proofs.Common.{ℕ, Option, get_or, arith}
use Rattle.release_grants.specs.declared.grant.Grant.{Grant}
use Rattle.policy_analysis.specs.declared.refusal.Refusal.{Refusal}
use Rattle.policy_analysis.specs.Refusals.{IsFoundOf}
use Rattle.policy_analysis.proofs.Found.{holds_with, one_longer}
use Rattle.policy_analysis.proofs.Listed.{found_at, path_at}
use Rattle.policy_analysis.proofs.refusal.refusals.Goals as goal

pub refusal_of-requires-clause-path : goal.refusal_of-requires-clause-path
refusal_of-requires-clause-path c =
    path_at c.args.grants.now c.args.paths.now c.loop-place.place c.index-grants-place.result _ c.requires c.loop-place-test.true c.index-grants-place.is c.index-paths-place.is

pub loop-place-preserved : goal.loop-place-preserved
loop-place-preserved c = record {
  one_each = one_longer c.loop-place.found.items c.push.new.self.items c.loop-place.place c.in_ok-refusal_of.field-0 c.in_ok-push.ensures.items c.loop-place.invariant.one_each;
  each = holds_with (λ (i : ℕ) (r : Option Refusal). (g : Grant) → IsFoundOf c.args.asked c.args.grants.now (get_or c.args.grants.now i g) r) c.loop-place.found.items c.push.new.self.items c.loop-place.place c.in_ok-refusal_of.field-0
      c.in_ok-push.ensures.items c.loop-place.invariant.one_each c.loop-place.invariant.each
      (found_at c.args.asked c.args.grants.now c.loop-place.place c.index-grants-place.result c.in_ok-refusal_of.field-0 c.loop-place-test.true c.index-grants-place.is c.in_ok-refusal_of.ensures);
}

pub returns : goal.returns
returns c = record {
  one_each = omega arith;
  each = λ i g r less. c.loop-place.invariant.each i r (omega arith) g;
}
