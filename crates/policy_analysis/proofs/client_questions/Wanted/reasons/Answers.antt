use Rattle.std.proofs.Common.{◌≡◌, ◌<◌, List, length, get_or, arith, ap, sym, ◌∙◌}
use Rattle.std.proofs.lemmas.List.{length-append}
use Rattle.capspec.specs.declared.grant.Grant.{Grant}
use Rattle.policy_analysis.proofs.Reasons.{has_reason, one_more}
use Rattle.policy_analysis.proofs.client_questions.Wanted.reasons.Goals as goal
use Rattle.policy_analysis.proofs.client_questions.Wanted.reasons.Goals.{in-Some, in_default}

pub loop-place-preserved : goal.loop-place-preserved
loop-place-preserved c =
    let w = c.args.self.now in
    let attr = c.args.attr.now in
    let grants = c.args.grants.now in
    let place = c.loop-place.place in
    let g = c.grant-item.result in
    let inside : place < length grants = omega (arith, ap length c.as_slice-grant-items.ensures.same) in
    let at : g ≡ get_or grants place g = c.grant-item.is ∙ ap (λ (gs : List Grant). get_or gs place g) c.as_slice-grant-items.ensures.same in
    elim c.match-reason.branch [
      | in-Some k ↦
          let more = one_more w attr grants c.loop-place.rules.items place g k.in-Some.rule inside at c.loop-place.invariant.0 (sym c.reason.ensures ∙ k.in-Some.is) in
          rw (k.rules-is, k.push.ensures.items) (more, simp length-append (omega (arith, c.loop-place.invariant.1)))
      | in_default k ↦ absurd (has_reason w attr grants place g c.requires inside at (sym c.reason.ensures ∙ k.in_default.is))
    ]
