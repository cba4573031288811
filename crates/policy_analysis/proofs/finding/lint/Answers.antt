use Rattle.std.proofs.Common.{◌≡◌, ℕ, ◌+◌, List, [], ◌∷◌, ◌++◌, get_or, refl, ap, ◌∙◌, subst, arith}
use Rattle.capspec.specs.declared.grant.Grant.{Grant}
use Rattle.capgrant.specs.Question.{contains}
use Rattle.policy_analysis.specs.declared.finding.Finding.{Finding}
use Rattle.policy_analysis.specs.Findings.{AreFindings, IsFinding}
use Rattle.policy_analysis.proofs.Found.{finding_at, holds_with, one_longer}
use Rattle.policy_analysis.proofs.finding.lint.Goals as goal

pub loop-place-preserved : goal.loop-place-preserved
loop-place-preserved c =
    let f : Finding = record { grant = c.loop-place.place + 1; is_redundant = c.has_number.result; allows_nothing = c.in_ok-allows_nothing.field-0; undoing = c.in_ok-undoing.field-0; has_ceph_text = c.has_ceph_text.result } in
    let after : c.push.new.self.items ≡ c.loop-place.findings.items ++ f ∷ [] = c.in_ok-push.ensures.items in
    let found : IsFinding c.as_slice-grants.result.now c.in_ok-numbers.numbers.items c.index-grants-place.result f = record {
      redundant = c.has_number.ensures ∙ ap (λ (numbers : List ℕ). contains numbers (c.loop-place.place + 1)) c.as_slice.ensures.value;
      nothing = c.in_ok-allows_nothing.ensures.nothing;
      something = c.in_ok-allows_nothing.ensures.something;
      undoing = c.in_ok-undoing.ensures;
      ceph = c.has_ceph_text.ensures;
    } in
    record {
      one_each = one_longer c.loop-place.findings.items c.push.new.self.items c.loop-place.place f after c.loop-place.invariant.one_each;
      numbered = holds_with (λ (i : ℕ) (f : Finding). f.grant ≡ i + 1) c.loop-place.findings.items c.push.new.self.items c.loop-place.place f after c.loop-place.invariant.one_each c.loop-place.invariant.numbered refl;
      each = λ i g d less. holds_with (λ (i : ℕ) (f : Finding). (g : Grant) → IsFinding c.as_slice-grants.result.now c.in_ok-numbers.numbers.items (get_or c.as_slice-grants.result.now i g) f) c.loop-place.findings.items c.push.new.self.items c.loop-place.place f after c.loop-place.invariant.one_each
          (λ i d less g. c.loop-place.invariant.each i g d less)
          (finding_at c.as_slice-grants.result.now c.in_ok-numbers.numbers.items c.loop-place.place c.index-grants-place.result f c.loop-place-test.true c.index-grants-place.is found) i d less g;
    }

pub returns : goal.returns
returns c = subst (λ (grants : List Grant). AreFindings grants c.loop-place.findings.items) c.as_slice-grants.ensures.same (record {
  numbers = c.in_ok-numbers.numbers.items;
  redundant = c.in_ok-numbers.ensures;
  one_each = omega arith;
  numbered = λ i f less. c.loop-place.invariant.numbered i f (omega arith);
  each = λ i g f less. c.loop-place.invariant.each i g f (omega arith);
})
