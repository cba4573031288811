use Rattle.std.proofs.Common.{◌≤◌, length, refl, arith}
use Rattle.capffi.proofs.Filled.{said_of_text}
use Rattle.capffi.proofs.by_block.judge_by.Goals as goal

pub returns-in-Some : goal.returns-in-Some
returns-in-Some c =
    let few : length c.args.groups.now ≤ 16 = omega (arith, c.if-groups-gt16.false) in
    said_of_text c.args.block.now c.args.text.now c.args.path.now c.args.groups.now c.in-Some.bare.now c.args.question.now c.judge_plain.result (c.if-not-is_block.ensures.0 refl) few c.in-Some.ensures.1 c.in-Some.ensures.0 c.judge_plain.ensures
