use Rattle.std.proofs.Common.{◌≡◌, ◌∙◌, ℕ, List, Option, true, ap, rules, refl, inl, inr, arith}
use Rattle.std.specs.Prelude.{is_none}
use Rattle.capgrant.specs.declared.rule.Rule.{Rule}
use Rattle.capffi.proofs.Entries.{allowed_answer, denied_answer, found_here, none_more, openly, rest_more, rules_more}
use Rattle.capffi.proofs.judging.Case.fast_verdict.Goals as goal

pub loop-place-preserved : goal.loop-place-preserved
loop-place-preserved c =
    let is_open : c.is_for_all.result ≡ true = search rules in
    let fails = openly _ _ _ c.first_failing_openly.ensures (c.is_for_all.ensures.uid is_open) (c.is_for_all.ensures.gids is_open) in (
      c.split_grant-grant.ensures.rest ∙ rest_more _ _ _ _ _ c.loop-place-test.true c.loop-place.invariant.0,
      λ (groups : List ℕ). none_more _ _ _ _ _ _ _ c.loop-place-test.true c.loop-place.invariant.0 c.split_grant-grant.ensures.grant (c.loop-place.invariant.1 groups) (ap (λ (found : Option Rule). is_none found) (fails groups ∙ c.in-Some.is)),
      λ (groups : List ℕ). rules_more _ _ _ _ _ _ _ _ _ _ c.loop-place-test.true c.requires c.loop-place.invariant.0 c.split_grant-grant.ensures.grant (c.loop-place.invariant.1 groups) (fails groups ∙ c.in-Some.is) c.number.ensures (c.loop-place.invariant.2 groups),
    )

pub returns-in_default : goal.returns-in_default
returns-in_default c =
    let is_open : c.is_for_all.result ≡ true = search rules in
    let fails = openly _ _ _ c.first_failing_openly.ensures (c.is_for_all.ensures.uid is_open) (c.is_for_all.ensures.gids is_open) in
    inr (inr (
      omega arith,
      omega (arith, c.loop-place-test.true, c.requires),
      refl,
      λ (groups : List ℕ).
          allowed_answer _ _ _ _ refl (found_here _ _ _ _ _ _ _ c.loop-place-test.true c.loop-place.invariant.0 c.split_grant-grant.ensures.grant (c.loop-place.invariant.1 groups) (ap (λ (found : Option Rule). is_none found) (fails groups ∙ c.in_default.is))),
    ))

pub returns : goal.returns
returns c = inr (inl (refl, λ (groups : List ℕ). denied_answer _ _ _ _ _ c.loop-place-test.false (c.loop-place.invariant.1 groups) (c.loop-place.invariant.2 groups)))
