use Rattle.std.proofs.Common.{◌≡◌, ◌+◌, [], ◌∷◌, length, ap, sym, ◌∙◌, subst, arith, length-append}
use Rattle.capserver.specs.Passes.{AllNew, pass_state}
use Rattle.capserver.proofs.Numbering.{new_more}
use Rattle.capserver.proofs.passes.make_passes.Goals as goal

pub loop-at-preserved : goal.loop-at-preserved
loop-at-preserved g c =
    let before = c.loop-at.invariant in
    let items = c.push_reserved.ensures.items in
    let same = c.reserve.ensures.items in
    let at = c.loop-at.at in
    let pass : c.new.result ≡ pass_state (at + 1) 0 [] = c.new.ensures ∙ (λ i. pass_state (at + 1) (c.split_off-share.ensures.amount i) (c.in-Ok.ensures.none i)) in
    let old : AllNew 0 c.reserve.new.self.items = subst (AllNew 0) (sym same) before.new in
    let many : length c.reserve.new.self.items ≡ at = ap length same ∙ before.many in
    record {
      parts = omega (arith, before.parts, c.split_off-share.ensures.parts_left);
      none = omega (arith, before.none, c.split_off-share.ensures.amount_left);
      new = subst (AllNew 0) (sym items) (new_more 0 (at + 1) c.reserve.new.self.items c.new.result old pass (omega (arith, many)));
      many = ap length items ∙ omega (arith, length-append c.reserve.new.self.items (c.new.result ∷ []), many);
      same = c.in-Ok.ensures.same ∙ before.same;
    }
