use Rattle.std.proofs.Common.{◌==◌, length, drop, refl, rules, tests, sym, ap, ◌∙◌, codes, arith}
use Rattle.std.specs.Prelude.{Ok, nat_eq}
use Rattle.std.specs.List.{starts_with}
use Rattle.std.proofs.lemmas.Iterator.Consumers.{YieldsList-at, YieldsList-end, YieldsList-turn}
use Rattle.std.proofs.lemmas.Iterator.Splits.{YieldsList-from_slice_split}
use Rattle.ceph_input.specs.Keyring.{is_only, lines}
use Rattle.ceph_input.proofs.KeyringLines.{inside_ends, inside_has, inside_step, none_left, outside_step, whole_rest}
use Rattle.ceph_input.proofs.section.value.Goals as goal
use Rattle.ceph_input.proofs.section.value.Goals.{else-is_inside, then-is_inside}

pub loop-line-preserved-then-not-is_inside : goal.loop-line-preserved-then-not-is_inside
loop-line-preserved-then-not-is_inside c =
    let text = c.args.keyring.now in
    let split = c.split-line-items.ensures in
    let turn = YieldsList-turn (YieldsList-at c.into_iter-line-iterator.ensures.into_iter_gives (YieldsList-from_slice_split _ (λ b. b == 10) text split.rest split.done split.closure (λ x b q k. search (rules, tests))))
    c.loop-line.yielded _ c.loop-line.yielded_by _ c.next.new.self c.in-Some.line c.in-Some.is c.next.ensures.steps in
    outside_step c.args.head.now (lines text) c.loop-line.yielded c.in-Some.line turn.0 turn.1 c.loop-line.is_inside c.is_only-is_inside.result (search rules) (c.is_only-is_inside.ensures ∙ ap (is_only c.args.head.now) c.skip_blanks-line.ensures) ∙ c.loop-line.invariant

pub returns-then-starts_with : goal.returns-then-starts_with
returns-then-starts_with c =
    let text = c.args.keyring.now in
    let split = c.split-line-items.ensures in
    let turn = YieldsList-turn (YieldsList-at c.into_iter-line-iterator.ensures.into_iter_gives (YieldsList-from_slice_split _ (λ b. b == 10) text split.rest split.done split.closure (λ x b q k. search (rules, tests))))
    c.loop-line.yielded _ c.loop-line.yielded_by _ c.next.new.self c.in-Some.line c.in-Some.is c.next.ensures.steps in
    sym c.loop-line.invariant ∙ inside_ends c.args.head.now (lines text) c.loop-line.yielded c.in-Some.line turn.0 turn.1 c.loop-line.is_inside (search rules)
    (ap (λ l. starts_with nat_eq l (codes "[")) (sym c.skip_blanks-line.ensures) ∙ sym c.starts_with.ensures.value ∙ c.if-starts_with.true)

pub returns-then-starts_with-2 : goal.returns-then-starts_with-2
returns-then-starts_with-2 c =
    let text = c.args.keyring.now in
    let split = c.split-line-items.ensures in
    let turn = YieldsList-turn (YieldsList-at c.into_iter-line-iterator.ensures.into_iter_gives (YieldsList-from_slice_split _ (λ b. b == 10) text split.rest split.done split.closure (λ x b q k. search (rules, tests))))
    c.loop-line.yielded _ c.loop-line.yielded_by _ c.next.new.self c.in-Some.line c.in-Some.is c.next.ensures.steps in
    sym c.loop-line.invariant ∙ inside_has c.args.head.now (lines text) c.loop-line.yielded c.in-Some.line turn.0 turn.1 c.loop-line.is_inside (search rules)
    (ap (λ l. starts_with nat_eq l (codes "[")) (sym c.skip_blanks-line.ensures) ∙ sym c.starts_with.ensures.value ∙ c.if-starts_with.false)
    (ap (λ l. starts_with nat_eq l (codes "caps mds = ")) (sym c.skip_blanks-line.ensures) ∙ sym c.starts_with-else-starts_with.ensures.value ∙ c.if-starts_with-2.true)
    ∙ ap Ok (ap (drop 11) (sym c.skip_blanks-line.ensures) ∙ sym (whole_rest c.skip_blanks-line.result.now))

pub loop-line-preserved : goal.loop-line-preserved
loop-line-preserved c =
    let text = c.args.keyring.now in
    let split = c.split-line-items.ensures in
    let turn = YieldsList-turn (YieldsList-at c.into_iter-line-iterator.ensures.into_iter_gives (YieldsList-from_slice_split _ (λ b. b == 10) text split.rest split.done split.closure (λ x b q k. search (rules, tests))))
    c.loop-line.yielded _ c.loop-line.yielded_by _ c.next.new.self c.in-Some.line c.in-Some.is c.next.ensures.steps in
    inside_step c.args.head.now (lines text) c.loop-line.yielded c.in-Some.line turn.0 turn.1 c.loop-line.is_inside (search rules)
    (ap (λ l. starts_with nat_eq l (codes "[")) (sym c.skip_blanks-line.ensures) ∙ sym c.starts_with.ensures.value ∙ c.if-starts_with.false)
    (ap (λ l. starts_with nat_eq l (codes "caps mds = ")) (sym c.skip_blanks-line.ensures) ∙ sym c.starts_with-else-starts_with.ensures.value ∙ c.if-starts_with-2.false)
    ∙ c.loop-line.invariant

pub returns : goal.returns
returns c =
    let text = c.args.keyring.now in
    let split = c.split-line-items.ensures in
    let end = YieldsList-end (YieldsList-at c.into_iter-line-iterator.ensures.into_iter_gives (YieldsList-from_slice_split _ (λ b. b == 10) text split.rest split.done split.closure (λ x b q k. search (rules, tests))))
    c.loop-line.yielded _ c.loop-line.yielded_by _ c.next.new.self c.in-None.is c.next.ensures.steps in
    sym c.loop-line.invariant ∙ none_left c.args.head.now (lines text) (length c.loop-line.yielded) c.loop-line.is_inside (omega (arith, end.1)) ∙ elim c.if-is_inside.branch [
      | then-is_inside w ↦ rw (w.if-is_inside.true, w.result-is) refl
      | else-is_inside w ↦ rw (w.if-is_inside.false, w.result-is) refl
    ]
