use Rattle.std.proofs.Common.{ap, arith, length, subst, sym}
use Rattle.capspec.specs.SharedPrefix.{AreAlike, IsAlike}
use Rattle.capspec.proofs.Sharing.{alike_more}
use Rattle.capspec.proofs.kept.like_each_other.Goals as goal

pub loop-place-preserved : goal.loop-place-preserved
loop-place-preserved c =
    let grants = c.args.grants.now in
    let here = subst (λ n. IsAlike grants n c.most_alike.result) (sym c.loop-place.invariant.0) c.most_alike.ensures in (
      omega (arith, c.loop-place.invariant.0, c.push.ensures.len, ap length c.push.ensures.items),
      subst (AreAlike grants) (sym c.push.ensures.items) (alike_more grants c.loop-place.alike.items c.most_alike.result (omega (arith, c.loop-place.invariant.0, c.loop-place-test.true)) c.loop-place.invariant.1 here),
    )
