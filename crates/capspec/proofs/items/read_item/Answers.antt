use Rattle.std.proofs.Common.{sym, ◌∙◌}
use Rattle.capspec.proofs.Drafting.{adds_item, wrong_again, wrong_value}
use Rattle.capspec.proofs.items.read_item.Goals as goal

pub returns-then-has-clause-err : goal.returns-then-has-clause-err
returns-then-has-clause-err c = wrong_again c.args.draft.now c.in-Some.key c.args.text.now c.in-Some.value.now c.in-Some.ensures (sym c.has.ensures ∙ c.if-has.true)

pub returns-clause-ok : goal.returns-clause-ok
returns-clause-ok c =
    adds_item c.args.draft.now c.read_value.new.draft c.in-Some.key c.args.text.now c.in-Some.value.now c.read_value.result c.in-Some.ensures.parts (sym c.has.ensures ∙ c.if-has.false) c.read_value.ensures.ok

pub returns-clause-err : goal.returns-clause-err
returns-clause-err c = wrong_value c.args.draft.now c.in-Some.key c.args.text.now c.in-Some.value.now c.read_value.result c.in-Some.ensures (sym c.has.ensures ∙ c.if-has.false) c.read_value.ensures.err
