use Rattle.std.proofs.Common.{◌≡◌, ℕ, ◌+◌, ◌*◌, ◌<◌, ◌≤◌, ◌^◌, false, get_or, drop, sym, subst, ap, ◌∙◌, arith, rules}
use Rattle.std.specs.Char.{digit_value}
use Rattle.byte_sets.specs.Sets.{begins}
use Rattle.capspec.specs.Words.{is_digit}
use Rattle.capspec.proofs.Numbers.{Writes, ends_at_byte, ends_at_end, number_read, rest_at, too_large, writes_more}
use Rattle.capspec.proofs.values.read_number.Goals as goal
use Rattle.capspec.proofs.values.read_number.Goals.{else-loop-byte-test, then-loop-byte-test+in_default}

pub returns-in_err-number-clause-none : goal.returns-in_err-number-clause-none
returns-in_err-number-clause-none c =
    let digit-is : c.in-Some.digit ≡ digit_value (get_or c.args.text.now c.loop-byte.byte-index 0) = search rules in
    let below : c.in-Some.digit < 10 = search rules in
    let large : 2 ^ 32 ≤ 10 * c.loop-byte.number + c.in-Some.digit = search rules in
    let more = writes_more c.args.text.now c.loop-byte.byte-index c.loop-byte.number c.in-Some.digit c.loop-byte.invariant.1 c.loop-byte-test.true digit-is below in
    rw c.from_residual.ensures (λ n is. too_large c.args.text.now (c.loop-byte.byte-index + 1) (10 * c.loop-byte.number + c.in-Some.digit) n more large is)

pub loop-byte-preserved : goal.loop-byte-preserved
loop-byte-preserved c =
    let digit-is : c.in-Some.digit ≡ digit_value (get_or c.args.text.now c.loop-byte.byte-index 0) = search rules in
    let below : c.in-Some.digit < 10 = search rules in
    let more-is : c.in_ok-number.number ≡ 10 * c.loop-byte.number + c.in-Some.digit = search rules in
    let small : c.in_ok-number.number < 2 ^ 32 = search rules in
    let more = writes_more c.args.text.now c.loop-byte.byte-index c.loop-byte.number c.in-Some.digit c.loop-byte.invariant.1 c.loop-byte-test.true digit-is below in
    (omega (arith, c.loop-byte.invariant.0), subst (Writes c.args.text.now (c.loop-byte.byte-index + 1)) (sym more-is) more, small)

stops : (c : goal.After-rest-1) → begins is_digit (drop c.loop-byte.byte-index c.args.text.now) ≡ false
stops c = elim c.loop-byte-test.branch [
  | else-loop-byte-test w ↦ ends_at_end c.args.text.now c.loop-byte.byte-index w.loop-byte-test.false
  | then-loop-byte-test+in_default w ↦
      let large : 10 ≤ digit_value (get_or c.args.text.now c.loop-byte.byte-index 0) = search rules in
      ends_at_byte c.args.text.now c.loop-byte.byte-index w.loop-byte-test.true large
]

pub returns-clause-number : goal.returns-clause-number
returns-clause-number c =
    let some : 0 < c.loop-byte.byte-index = omega (arith, c.if-end-eq0.false, c.loop-byte.invariant.0) in
    number_read c.args.text.now c.loop-byte.byte-index c.loop-byte.number c.loop-byte.invariant.1 (stops c) some c.loop-byte.auto.byte-index-end c.loop-byte.invariant.2

pub returns-clause-rest : goal.returns-clause-rest
returns-clause-rest c = c.split_at.ensures.back ∙ ap (λ (n : ℕ). drop n c.args.text.now) c.loop-byte.invariant.0 ∙ sym (rest_at c.args.text.now c.loop-byte.byte-index c.loop-byte.number c.loop-byte.invariant.1 (stops c))
