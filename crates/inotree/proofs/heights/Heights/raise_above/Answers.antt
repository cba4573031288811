use Rattle.std.proofs.Common.{◌≡◌, ℕ, ◌<◌, ◌≤◌, true, Some, None, sym, subst, arith}
use Rattle.inotree.specs.Inodes.{InodeMap}
use Rattle.inotree.specs.Tree.{is_directory, parent}
use Rattle.inotree.specs.Heights.{HeightMap, HeightsRiseBut, IsHigher, height}
use Rattle.inotree.proofs.Rising.{all-rise, climb_last, climb_next, parent_under, raise-step}
use Rattle.inotree.proofs.heights.Heights.raise_above.Goals as goal

pub loop-init : goal.loop-init
loop-init c = let r = c.requires.tree.1.to_root c.args.ino c.requires.here in ((r.0, omega (arith, r.1), r.2), c.requires.rise)

pub returns-in_default : goal.returns-in_default
returns-in_default c =
    let none : parent c.args.inodes.now c.loop.at ≡ None = sym c.in_default.ensures in
    all-rise c.args.inodes.now c.loop.self c.loop.at c.loop.invariant.1 (λ d is. cc)

pub returns-then-height-ge-MAX_NAMES : goal.returns-then-height-ge-MAX_NAMES
returns-then-height-ge-MAX_NAMES c =
    let dir : parent c.args.inodes.now c.loop.at ≡ Some c.in-Some.dir.0 = sym c.in-Some.ensures in
    all-rise c.args.inodes.now c.loop.self c.loop.at c.loop.invariant.1 (λ d is.
    let same : c.in-Some.dir.0 ≡ d = cc in
    subst (λ e. IsHigher c.args.inodes.now c.loop.self e c.loop.at) same (λ low.
    let less : c.of-height.result < 32 = subst (λ n. n < 32) (sym c.of-height.ensures) low in absurd (omega (arith, less, c.if-height-ge-MAX_NAMES.true))))

pub returns-then-below-height : goal.returns-then-below-height
returns-then-below-height c =
    let dir : parent c.args.inodes.now c.loop.at ≡ Some c.in-Some.dir.0 = sym c.in-Some.ensures in
    all-rise c.args.inodes.now c.loop.self c.loop.at c.loop.invariant.1 (λ d is.
    let same : c.in-Some.dir.0 ≡ d = cc in
    subst (λ e. IsHigher c.args.inodes.now c.loop.self e c.loop.at) same (λ low.
    subst (λ n. n < height c.args.inodes.now c.loop.self c.in-Some.dir.0) c.of-below.ensures (subst (λ n. c.of-below.result < n) c.of-height.ensures c.if-below-height.true)))

pub loop-preserved : goal.loop-preserved
loop-preserved c =
    let m : InodeMap = c.args.inodes.now in
    let at : ℕ = c.loop.at in
    let up : ℕ = c.in-Some.dir.0 in
    let v : ℕ = c.saturating_add.result in
    let dir : parent m at ≡ Some up = sym c.in-Some.ensures in
    let under = parent_under m at up dir in
    let kind : is_directory m up ≡ true = (c.requires.tree.1.parents at up under.0 under.1).0 in
    let low : height m c.loop.self up < 32 = subst (λ n. n < 32) c.of-height.ensures c.if-height-ge-MAX_NAMES.false in
    let le : height m c.loop.self up ≤ height m c.loop.self at = subst (λ n. n ≤ height m c.loop.self at) c.of-height.ensures (subst (λ n. c.of-height.result ≤ n) c.of-below.ensures c.if-below-height.false) in
    let above : v < 32 → height m c.loop.self at < v = λ few. subst (λ n. n < v) c.of-below.ensures (omega (arith, few, c.saturating_add.ensures, c.of-below.type_inv)) in (
      climb_next (record { nodes = m; last = c.requires.tree.0 }) c.requires.tree.1 c.loop.counter at up dir c.loop.invariant.0,
      subst (λ (h : HeightMap). HeightsRiseBut m h up) (sym c.set.ensures) (raise-step m c.loop.self at up v dir kind low le above c.loop.invariant.1),
    )

pub returns : goal.returns
returns c = all-rise c.args.inodes.now c.loop.self c.loop.at c.loop.invariant.1 (λ d is. absurd (climb_last (record { nodes = c.args.inodes.now; last = c.requires.tree.0 }) c.requires.tree.1 c.loop.counter c.loop.at d (omega arith) is c.loop.invariant.0))
