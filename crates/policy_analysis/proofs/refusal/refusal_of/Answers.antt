use Rattle.std.proofs.lemmas.Option.{MatchOption-at_none}
use Rattle.std.proofs.Common.{◌≡◌, ◌∙◌}
use Rattle.policy_analysis.specs.Refusals.{IsRefusal, NoneRefuses, names_in}
use Rattle.policy_analysis.specs.Squashing.{longer}
use Rattle.policy_analysis.proofs.Listed.{path_at}
use Rattle.policy_analysis.proofs.Loops.{all_of, one_more}
use Rattle.policy_analysis.proofs.refusal.refusal_of.Goals as goal

pub refusal_of_two-requires : goal.refusal_of_two-requires
refusal_of_two-requires c =
    let other : c.index-paths-place.result ≡ names_in c.index-grants-place.result = path_at c.args.grants.now c.args.paths.now c.loop-place.place c.index-grants-place.result _ c.requires.paths c.loop-place-test.true c.index-grants-place.is c.index-paths-place.is in
    c.in_ok-of_both.ensures ∙ (λ i. longer (c.requires.path i) (other i))

pub loop-place-preserved : goal.loop-place-preserved
loop-place-preserved c = one_more (NoneRefuses c.args.asked c.args.grants.now c.args.grant.now) c.args.grants.now c.loop-place.place c.index-grants-place.result c.loop-place-test.true c.index-grants-place.is c.loop-place.invariant
    (MatchOption-at_none (NoneRefuses c.args.asked c.args.grants.now c.args.grant.now c.index-grants-place.result) (IsRefusal c.args.asked c.args.grants.now c.args.grant.now) c.in_default.is c.in_ok-refusal.ensures)

pub returns : goal.returns
returns c = all_of (NoneRefuses c.args.asked c.args.grants.now c.args.grant.now) c.args.grants.now c.loop-place.place c.loop-place-test.false c.loop-place.invariant
