use Rattle.std.proofs.Common.{arith}
use Rattle.texts.specs.Values.{natural}
use Rattle.texts.proofs.Tables.{one_item}
use Rattle.texts.proofs.table.numbers_value.Goals as goal

pub loop-number-preserved : goal.loop-number-preserved
loop-number-preserved c =
    one_item natural c.loop-number.items.items c.push.new.self.items c.args.numbers.now c.loop-number.number-index _ _ (omega arith) c.from.ensures c.in_ok-push.ensures.items c.loop-number.invariant
