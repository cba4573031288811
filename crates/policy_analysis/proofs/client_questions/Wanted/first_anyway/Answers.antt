use Rattle.std.proofs.Common.{true, false, ◌≡◌, ◌<◌, ◌+◌, not, List, length, get_or, arith, ap, sym, ◌∙◌, refl}
use Rattle.std.specs.Prelude.{is_none}
use Rattle.std.proofs.lemmas.Bool.{and_from, and_left, and_right}
use Rattle.capspec.specs.declared.grant.Grant.{Grant}
use Rattle.capgrant.specs.declared.access.Attr.{Attr}
use Rattle.policy_analysis.specs.Callers.{allows_one}
use Rattle.policy_analysis.specs.Standing.{allows_anyway, own_attr}
use Rattle.policy_analysis.proofs.Firsts.{none_passes, one_fails, one_passes}
use Rattle.policy_analysis.proofs.client_questions.Wanted.first_anyway.Goals as goal
use Rattle.policy_analysis.proofs.client_questions.Wanted.first_anyway.Goals.{else-is_none-via-else-is_none, else-is_none-via-then-is_none+else-allows_one}

pub returns-then-allows_one : goal.returns-then-allows_one
returns-then-allows_one c =
    let grants = c.args.grants.now in
    let place = c.loop-place.place in
    let g = c.grant-item.result in
    let inside : place < length grants = omega (arith, ap length c.as_slice-grant-items.ensures.same) in
    let at : g ≡ get_or grants place g = c.grant-item.is ∙ ap (λ (gs : List Grant). get_or gs place g) c.as_slice-grant-items.ensures.same in
    one_passes (λ h. allows_anyway c.args.self.now h ≡ true) (λ h. allows_anyway c.args.self.now h ≡ false) grants place g inside at (place + 1) refl c.loop-place.invariant
    (and_from (is_none g.uid) (allows_one c.args.self.now (own_attr g) g) (ap not (c.is_none.ensures ∙ ap not c.if-is_none.true))
    (ap (λ (attr : Attr). allows_one c.args.self.now attr g) (sym c.own_attr.ensures) ∙ sym c.allows_one.ensures ∙ c.if-allows_one.true))

pub loop-place-preserved : goal.loop-place-preserved
loop-place-preserved c =
    let w = c.args.self.now in
    let grants = c.args.grants.now in
    let place = c.loop-place.place in
    let g = c.grant-item.result in
    let inside : place < length grants = omega (arith, ap length c.as_slice-grant-items.ensures.same) in
    let at : g ≡ get_or grants place g = c.grant-item.is ∙ ap (λ (gs : List Grant). get_or gs place g) c.as_slice-grant-items.ensures.same in
    one_fails (λ h. allows_anyway w h ≡ true) (λ h. allows_anyway w h ≡ false) grants place g inside at c.loop-place.invariant (elim c.else-is_none.branch [
      | else-is_none-via-then-is_none+else-allows_one k ↦ and_right (is_none g.uid) (allows_one w (own_attr g) g) (ap (λ (attr : Attr). allows_one w attr g) (sym k.own_attr.ensures) ∙ sym k.allows_one.ensures ∙ k.if-allows_one.false)
      | else-is_none-via-else-is_none k ↦ and_left (is_none g.uid) (allows_one w (own_attr g) g) (ap not (c.is_none.ensures ∙ ap not k.if-is_none.false))
    ])

pub returns : goal.returns
returns c = none_passes (λ h. allows_anyway c.args.self.now h ≡ false) c.args.grants.now c.loop-place.place (omega (arith, ap length c.as_slice-grant-items.ensures.same)) c.loop-place.invariant
