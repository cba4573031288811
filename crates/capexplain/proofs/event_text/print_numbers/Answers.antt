use Rattle.std.proofs.Common.{◌++◌, arith, sym, ap, ◌∙◌, append_assoc}
use Rattle.std.specs.Prelude.{codes}
use Rattle.std.specs.List.{flat_map}
use Rattle.std.proofs.lemmas.List.{append-nil, take_all}
use Rattle.texts.proofs.Texts.{behind_space, texts-more}
use Rattle.capexplain.proofs.event_text.print_numbers.Goals as goal

pub loop-number-init : goal.loop-number-init
loop-number-init c = sym (append-nil _)

pub loop-number-preserved : goal.loop-number-preserved
loop-number-preserved c =
    texts-more behind_space c.args.text.now.items c.loop-number.text.items _ c.args.numbers.now c.loop-number.number-index _ (omega arith) c.loop-number.invariant (c.in_ok-print_numbered.ensures ∙ append_assoc c.loop-number.text.items (codes " ") _)

pub returns : goal.returns
returns c = c.loop-number.invariant ∙ ap (λ numbers. c.args.text.now.items ++ flat_map behind_space numbers) (take_all c.loop-number.number-index c.args.numbers.now (omega arith))
