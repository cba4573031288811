use Rattle.std.proofs.Common.{◌-◌, arith, refl}
use Rattle.capspec.proofs.Backwards.{no_slash, none, other_name, too_short}
use Rattle.capspec.proofs.names.is_text_of.Goals as goal

pub returns-then-end-name : goal.returns-then-end-name
returns-then-end-name c =
    none (λ whole. too_short c.args.text.now c.loop-left.end c.loop-left.left (c.loop-left.left - 1) c.args.names.now _ (omega (arith, c.loop-left-test.true)) c.loop-left.invariant.0 c.loop-left.invariant.1 c.loop-left.invariant.2 whole c.if-end-name.true)

pub returns-then-not-is_same : goal.returns-then-not-is_same
returns-then-not-is_same c =
    none (λ whole. other_name c.args.text.now c.loop-left.end c.loop-left.left (c.loop-left.left - 1) c.args.names.now _ (omega (arith, c.loop-left-test.true)) c.loop-left.invariant.0 c.loop-left.invariant.1 c.loop-left.invariant.2 whole _ _ _ c.is_same.ensures.1 c.if-not-is_same.true c.if-end-name.false refl refl)

pub returns-then-text-end-ne47 : goal.returns-then-text-end-ne47
returns-then-text-end-ne47 c =
    none (λ whole. no_slash c.args.text.now c.loop-left.end c.loop-left.left (c.loop-left.left - 1) c.args.names.now _ (omega (arith, c.loop-left-test.true)) c.loop-left.invariant.0 c.loop-left.invariant.1 c.loop-left.invariant.2 whole _ _ c.if-text-end-ne47.true c.if-end-name.false refl)
