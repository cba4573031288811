use Rattle.std.proofs.Common.{List, ap, arith, length, rules, tests, ℕ}
use Rattle.std.specs.Borrow.{Bor}
use Rattle.std.proofs.lemmas.List.{length-map}
use Rattle.std.proofs.lemmas.Iterator.Consumers.{YieldsList-at, YieldsList-end, YieldsList-turn}
use Rattle.std.proofs.lemmas.Iterator.Splits.{YieldsList-from_slice_split}
use Rattle.capspec.specs.Items.{is_comma}
use Rattle.queries.proofs.Pieces.{all_groups, is_full, many_groups, not_groups}
use Rattle.queries.proofs.lists.read_groups.Goals as goal

pub returns-in_err-read_u32 : goal.returns-in_err-read_u32
returns-in_err-read_u32 c =
    let text = c.args.text.now in
    let split = c.split-digits-items.ensures in
    let turn = YieldsList-turn (YieldsList-at c.into_iter-digits-iterator.ensures.into_iter_gives (YieldsList-from_slice_split _ is_comma text split.rest split.done split.closure (λ x b q k. search (rules, tests))))
    c.loop-digits.yielded _ c.loop-digits.yielded_by _ c.next.new.self c.in-Some.digits c.in-Some.is c.next.ensures.steps in
    rw c.from_residual.ensures (not_groups text _ _ turn.0 turn.1 c.in_err-read_u32.ensures)

pub returns-in_err-ok : goal.returns-in_err-ok
returns-in_err-ok c =
    let text = c.args.text.now in
    let split = c.split-digits-items.ensures in
    let turn = YieldsList-turn (YieldsList-at c.into_iter-digits-iterator.ensures.into_iter_gives (YieldsList-from_slice_split _ is_comma text split.rest split.done split.closure (λ x b q k. search (rules, tests))))
    c.loop-digits.yielded _ c.loop-digits.yielded_by _ c.next.new.self c.in-Some.digits c.in-Some.is c.next.ensures.steps in
    let full = is_full c.try_push.result c.ok.result (length c.loop-digits.groups) 16 c.in_err-ok.was c.ok.ensures.value c.try_push.ensures.room.1 in
    rw c.from_residual-in_err-ok.ensures (many_groups text _ turn.0 (omega (arith, full, ap length c.loop-digits.invariant.same, length-map {A = Bor (List ℕ)} {B = ℕ})))

pub returns : goal.returns
returns c =
    let text = c.args.text.now in
    let split = c.split-digits-items.ensures in
    let kept = c.loop-digits.invariant in
    all_groups text _ _ ((YieldsList-end (YieldsList-at c.into_iter-digits-iterator.ensures.into_iter_gives (YieldsList-from_slice_split _ is_comma text split.rest split.done split.closure (λ x b q k. search (rules, tests))))
    c.loop-digits.yielded _ c.loop-digits.yielded_by _ c.next.new.self c.in-None.is c.next.ensures.steps).0) kept.numbers kept.few kept.same
