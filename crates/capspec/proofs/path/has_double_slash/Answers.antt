use Rattle.std.proofs.Common.{◌≡◌, ◌||◌, ◌&&◌, ◌+◌, ◌-◌, ℕ, Bool, List, drop, get_or, eqb, sym, ap, ◌∙◌, arith}
use Rattle.std.proofs.Math.Bool.{or-false, or_assoc}
use Rattle.capspec.specs.Paths.{has_double_slash}
use Rattle.capspec.proofs.OneText.{no_pair, pair_step}
use Rattle.capspec.proofs.path.has_double_slash.Goals as goal

pub loop-place-preserved : goal.loop-place-preserved
loop-place-preserved c =
    let text : List ℕ = c.args.text.now in
    let k : ℕ = c.loop-place.place in
    let pair : Bool = eqb (get_or text (k - 1) 0) 47 && eqb (get_or text k 0) 47 in
    let next : (k + 1) - 1 ≡ k = omega arith in
    ap (λ (m : ℕ). (c.loop-place.is_found || pair) || has_double_slash (drop m text)) next ∙ or_assoc c.loop-place.is_found pair (has_double_slash (drop k text))
    ∙ ap (λ (t : Bool). c.loop-place.is_found || t) (sym (pair_step text k 0 c.loop-place.auto.place c.loop-place-test.true)) ∙ c.loop-place.invariant

pub returns : goal.returns
returns c =
    sym (or-false c.loop-place.is_found) ∙ ap (λ (t : Bool). c.loop-place.is_found || t) (sym (no_pair c.args.text.now c.loop-place.place c.loop-place-test.false)) ∙ c.loop-place.invariant
