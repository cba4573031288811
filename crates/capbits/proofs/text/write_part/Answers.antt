use Rattle.std.proofs.Common.{ap, sym, ◌∙◌, append-nil, ◌++◌, true≢false}
use Rattle.capbits.proofs.Spelling.{group_of-none, part_text}
use Rattle.capbits.proofs.text.write_part.Goals as goal

pub returns-then-is_empty-clause-text : goal.returns-then-is_empty-clause-text
returns-then-is_empty-clause-text c = sym (append-nil _) ∙ ap (λ g. c.args.out.now.items ++ g) (sym (group_of-none c.args.part c.args.set (sym c.part.ensures ∙ c.is_empty.ensures.none.0 c.if-is_empty.true)))

pub returns-clause-text : goal.returns-clause-text
returns-clause-text c =
    part_text c.args.part c.args.set _ _ _ _ _ c.write_letters.ensures.text c.push.ensures.items c.capital.ensures c.caps.ensures
    (λ e. true≢false (sym (c.is_empty.ensures.none.1 (c.part.ensures ∙ e)) ∙ c.if-is_empty.false))
