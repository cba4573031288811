use Rattle.std.proofs.Common.{◌≡◌, [], ap, length, arith, ◌∙◌}
use Rattle.std.proofs.lemmas.Grind.{common_steps}
use Rattle.capbits.proofs.Spelling.{all_groups, text_of-none, text_of-some}
use Rattle.capbits.proofs.text.spell.Goals as goal

pub returns-then-is_empty : goal.returns-then-is_empty
returns-then-is_empty c =
    let none : c.write_part-4.new.out.items ≡ [] = grind (arith, common_steps) in
    c.push.ensures.items
    ∙ text_of-none c.args.set _
    (all_groups c.args.set _ _ _ _ _ _ c.new-out.ensures c.write_letters.ensures.text c.write_part.ensures.text c.write_part-2.ensures.text c.write_part-3.ensures.text c.write_part-4.ensures.text)
    none

pub returns-else-is_empty : goal.returns-else-is_empty
returns-else-is_empty c =
    text_of-some c.args.set _
    (all_groups c.args.set _ _ _ _ _ _ c.new-out.ensures c.write_letters.ensures.text c.write_part.ensures.text c.write_part-2.ensures.text c.write_part-3.ensures.text c.write_part-4.ensures.text)
    (λ e. let n : length c.write_part-4.new.out.items ≡ 0 = ap length e in grind (arith, common_steps))
