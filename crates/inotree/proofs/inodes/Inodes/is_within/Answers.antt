use Rattle.std.proofs.Common.{◌≡◌, ◌+◌, ◌-◌, Some, None, sym, ap, ◌∙◌, arith}
use Rattle.std.proofs.lemmas.Bool.{or_left}
use Rattle.std.specs.Option.{option_map}
use Rattle.capbits.specs.declared.ids.Ino.{Ino}
use Rattle.inotree.specs.Tree.{lies_below, parent, site_of}
use Rattle.inotree.proofs.Walks.{is_within-is, lies_below-none, lies_below-step, no_dir, or_same, other_test, same_test, to_dir}
use Rattle.inotree.proofs.inodes.Inodes.is_within.Goals as goal

pub loop-init : goal.loop-init
loop-init c = is_within-is c.args.self.now c.args.ino c.args.above

pub returns-then-at-above : goal.returns-then-at-above
returns-then-at-above c =
    sym (c.loop.invariant ∙ lies_below-step (32 - c.loop.counter) c.args.self.now c.loop.at c.args.above (omega arith) ∙ or_left _ _ (same_test c.loop.at c.args.above c.if-at-above.true))

pub returns-in-None : goal.returns-in-None
returns-in-None c =
    let none : parent c.args.self.now c.loop.at ≡ None = sym c.parent.ensures ∙ ap (option_map (λ (i : Ino). i.0)) c.in-None.is in
    sym (c.loop.invariant ∙ lies_below-step (32 - c.loop.counter) c.args.self.now c.loop.at c.args.above (omega arith) ∙ or_same _ _ (other_test c.loop.at c.args.above c.if-at-above.false) ∙ no_dir (site_of c.args.self.now c.loop.at) _ _ none)

pub loop-preserved : goal.loop-preserved
loop-preserved c =
    let dir : parent c.args.self.now c.loop.at ≡ Some c.in-Some.dir.0 = sym c.parent.ensures ∙ ap (option_map (λ (i : Ino). i.0)) c.in-Some.is in
    let less : 32 - c.loop.counter - 1 ≡ 32 - (c.loop.counter + 1) = omega arith in
    c.loop.invariant ∙ lies_below-step (32 - c.loop.counter) c.args.self.now c.loop.at c.args.above (omega arith) ∙ or_same _ _ (other_test c.loop.at c.args.above c.if-at-above.false) ∙ to_dir (site_of c.args.self.now c.loop.at) _ (λ d. lies_below (32 - c.loop.counter - 1) c.args.self.now d c.args.above) _ dir
    ∙ ap (λ k. lies_below k c.args.self.now c.in-Some.dir.0 c.args.above) less

pub returns : goal.returns
returns c =
    let none : 32 - c.loop.counter ≡ 0 = omega arith in
    sym (c.loop.invariant ∙ ap (λ k. lies_below k c.args.self.now c.loop.at c.args.above) none ∙ lies_below-none c.args.self.now c.loop.at c.args.above)
