use Rattle.std.proofs.Common.{◌+◌, ◌∙◌}
use Rattle.texts.specs.Answers.{failure_value, rule_value}
use Rattle.texts.proofs.Tables.{one_numbered}
use Rattle.texts.proofs.table.rules_value.Goals as goal

pub loop-place-preserved : goal.loop-place-preserved
loop-place-preserved c =
    one_numbered rule_value c.loop-place.items.items c.push.new.self.items c.args.rules.now c.loop-place.place _ c.in_ok-failure_value.field-0 c.loop-place-test.true
    (c.in_ok-failure_value.ensures ∙ (λ i. failure_value (c.loop-place.place + 1) (c.number.ensures i) (c.word.ensures i))) c.in_ok-push.ensures.items c.loop-place.invariant
