use Rattle.std.proofs.Common.{true, false, ◌≡◌, ◌<◌, ◌+◌, List, length, get_or, arith, ap, sym, ◌∙◌, refl}
use Rattle.capspec.specs.declared.grant.Grant.{Grant}
use Rattle.capgrant.specs.declared.access.Attr.{Attr}
use Rattle.policy_analysis.specs.Callers.{allows_one}
use Rattle.policy_analysis.specs.Standing.{allows_here}
use Rattle.policy_analysis.proofs.Firsts.{none_passes, one_fails, one_passes}
use Rattle.policy_analysis.proofs.client_questions.Wanted.first.Goals as goal

pub returns-then-allows_one : goal.returns-then-allows_one
returns-then-allows_one c =
    let grants = c.args.grants.now in
    let place = c.loop-place.place in
    let g = c.grant-item.result in
    let inside : place < length grants = omega (arith, ap length c.as_slice-grant-items.ensures.same) in
    let at : g ≡ get_or grants place g = c.grant-item.is ∙ ap (λ (gs : List Grant). get_or gs place g) c.as_slice-grant-items.ensures.same in
    one_passes (λ h. allows_here c.args.self.now c.args.attr.now h ≡ true) (λ h. allows_here c.args.self.now c.args.attr.now h ≡ false) grants place g inside at (place + 1) refl c.loop-place.invariant
    (ap (λ (attr : Attr). allows_one c.args.self.now attr g) (sym c.attr_for.ensures) ∙ sym c.allows_one.ensures ∙ c.if-allows_one.true)

pub loop-place-preserved : goal.loop-place-preserved
loop-place-preserved c =
    let grants = c.args.grants.now in
    let place = c.loop-place.place in
    let g = c.grant-item.result in
    let inside : place < length grants = omega (arith, ap length c.as_slice-grant-items.ensures.same) in
    let at : g ≡ get_or grants place g = c.grant-item.is ∙ ap (λ (gs : List Grant). get_or gs place g) c.as_slice-grant-items.ensures.same in
    one_fails (λ h. allows_here c.args.self.now c.args.attr.now h ≡ true) (λ h. allows_here c.args.self.now c.args.attr.now h ≡ false) grants place g inside at c.loop-place.invariant
    (ap (λ (attr : Attr). allows_one c.args.self.now attr g) (sym c.attr_for.ensures) ∙ sym c.allows_one.ensures ∙ c.if-allows_one.false)

pub returns : goal.returns
returns c = none_passes (λ h. allows_here c.args.self.now c.args.attr.now h ≡ false) c.args.grants.now c.loop-place.place (omega (arith, ap length c.as_slice-grant-items.ensures.same)) c.loop-place.invariant
