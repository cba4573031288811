use Rattle.std.proofs.Common.{◌≡◌, ◌+◌, ◌-◌, ◌*◌, ◌≤◌, ℕ, length, drop, sym, ap, ◌∙◌, arith}
use Rattle.capspec.specs.Paths.{has_double_slash}
use Rattle.capspec.proofs.OneText.{no_pair}
use Rattle.capffi.proofs.plain.has_pair.Goals as goal

pub returns : goal.returns
returns c =
    let past : length c.args.path.now ≤ 2 * c.loop-pair.pair + 1 = omega (arith, c.loop-pair-test.false) in
    let place : (2 * c.loop-pair.pair + 1) - 1 ≡ 2 * c.loop-pair.pair = omega arith in
    sym (no_pair c.args.path.now (2 * c.loop-pair.pair + 1) past)
    ∙ ap (λ (m : ℕ). has_double_slash (drop m c.args.path.now)) place ∙ c.loop-pair.invariant
