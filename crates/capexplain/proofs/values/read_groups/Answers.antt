use Rattle.std.proofs.Common.{ℕ, List, length, length-append, [], ◌∷◌, map, rules, tests, sym, ap, ◌∙◌, arith}
use Rattle.std.specs.Borrow.{Bor}
use Rattle.std.specs.Prelude.{bytes_eq}
use Rattle.std.proofs.lemmas.List.{length-map, map-append}
use Rattle.std.proofs.lemmas.Iterator.Consumers.{YieldsList-at, YieldsList-end, YieldsList-turn}
use Rattle.std.proofs.lemmas.Iterator.Splits.{YieldsList-from_slice_split}
use Rattle.capspec.specs.Items.{is_comma}
use Rattle.capexplain.proofs.GroupNumbers.{all_numbers, bad_number, has_pushed, is_full, numbers_count, numbers_more, too_many}
use Rattle.capexplain.proofs.values.read_groups.Goals as goal

pub returns-in_err-gid : goal.returns-in_err-gid
returns-in_err-gid c =
    let text = c.args.word.now in
    let split = c.split-digits-items.ensures in
    let turn = YieldsList-turn (YieldsList-at c.into_iter-digits-iterator.ensures.into_iter_gives (YieldsList-from_slice_split _ is_comma text split.rest split.done split.closure (λ x b q k. search (rules, tests))))
    c.loop-digits.yielded _ c.loop-digits.yielded_by _ c.next.new.self c.in-Some.digits c.in-Some.is c.next.ensures.steps in
    bad_number _ text _ _ c.in_err-gid.field-0.0 c.from_residual.ensures.1 (sym c.if-eq.false ∙ c.eq.ensures ∙ ap (bytes_eq text) c.as_slice.ensures) turn.0 turn.1 c.in_err-gid.ensures

pub returns-then-is_err : goal.returns-then-is_err
returns-then-is_err c =
    let text = c.args.word.now in
    let split = c.split-digits-items.ensures in
    let turn = YieldsList-turn (YieldsList-at c.into_iter-digits-iterator.ensures.into_iter_gives (YieldsList-from_slice_split _ is_comma text split.rest split.done split.closure (λ x b q k. search (rules, tests))))
    c.loop-digits.yielded _ c.loop-digits.yielded_by _ c.next.new.self c.in-Some.digits c.in-Some.is c.next.ensures.steps in
    let full = is_full c.try_push.result (length c.loop-digits.groups) 16 (sym c.is_err.ensures.value ∙ c.if-is_err.true) c.try_push.ensures.room.1 in
    let count = numbers_count (map (λ (t : Bor (List ℕ)). t.now) c.loop-digits.yielded) c.loop-digits.groups c.loop-digits.invariant.read in
    too_many text (sym c.if-eq.false ∙ c.eq.ensures ∙ ap (bytes_eq text) c.as_slice.ensures) (omega (arith, full, count, turn.0, length-map {A = Bor (List ℕ)} {B = List ℕ}))

pub loop-digits-preserved : goal.loop-digits-preserved
loop-digits-preserved c =
    let now : Bor (List ℕ) → List ℕ = λ t. t.now in
    let more = numbers_more (map now c.loop-digits.yielded) c.in-Some.digits.now c.loop-digits.groups c.in_ok-gid.gid c.loop-digits.invariant.read (sym c.in_ok-gid.ensures) in
    let pushed = has_pushed c.try_push.result (sym c.is_err.ensures.value ∙ c.if-is_err.false) c.try_push.ensures.ok c.try_push.ensures.room.0 in
    record { read = rw (map-append now c.loop-digits.yielded (c.in-Some.digits ∷ []), pushed.0) more; few = omega (arith, pushed.1, ap length pushed.0, length-append c.loop-digits.groups (c.in_ok-gid.gid ∷ [])) }

pub returns : goal.returns
returns c =
    let text = c.args.word.now in
    let split = c.split-digits-items.ensures in
    let whole = (YieldsList-end (YieldsList-at c.into_iter-digits-iterator.ensures.into_iter_gives (YieldsList-from_slice_split _ is_comma text split.rest split.done split.closure (λ x b q k. search (rules, tests))))
    c.loop-digits.yielded _ c.loop-digits.yielded_by _ c.next.new.self c.in-None.is c.next.ensures.steps).0 in
    all_numbers text c.loop-digits.groups (sym c.if-eq.false ∙ c.eq.ensures ∙ ap (bytes_eq text) c.as_slice.ensures) (rw (sym whole) c.loop-digits.invariant.read) c.loop-digits.invariant.few
