use Rattle.std.proofs.Common.{ap, length, sym, arith}
use Rattle.std.proofs.lemmas.List.{length-append}
use Rattle.capspec.proofs.Fronts.{split_front, split_rest}
use Rattle.osd_caps.proofs.bytes.split_while.Goals as goal

pub returns-clause-front : goal.returns-clause-front
returns-clause-front c = sym (split_front c.args.set c.args.text.now _ _ c.split_while.ensures)

pub returns-clause-rest : goal.returns-clause-rest
returns-clause-rest c = sym (split_rest c.args.set c.args.text.now _ _ c.split_while.ensures)

pub returns-clause-shorter : goal.returns-clause-shorter
returns-clause-shorter c = omega (arith, ap length c.split_while.ensures.parts, length-append c.split_while.result.0.now c.split_while.result.1.now)
