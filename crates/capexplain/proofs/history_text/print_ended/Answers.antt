use Rattle.std.proofs.Common.{◌++◌, arith, sym, ap, ◌∙◌}
use Rattle.std.specs.List.{flat_map}
use Rattle.std.proofs.lemmas.List.{append-nil, take_all}
use Rattle.capexplain.specs.Audit.{ended_text}
use Rattle.texts.proofs.Texts.{texts-more}
use Rattle.capexplain.proofs.history_text.print_ended.Goals as goal

pub loop-one-init : goal.loop-one-init
loop-one-init c = sym (append-nil _)

pub loop-one-preserved : goal.loop-one-preserved
loop-one-preserved c =
    texts-more ended_text c.args.text.now.items c.loop-one.text.items _ c.args.ended.now c.loop-one.one-index c.one-item.result (omega arith) c.loop-one.invariant
    (c.in_ok-print_one.ensures ∙ ap (λ m. c.loop-one.text.items ++ ended_text m) c.one-item.is)

pub returns : goal.returns
returns c = c.loop-one.invariant ∙ ap (λ ended. c.args.text.now.items ++ flat_map ended_text ended) (take_all c.loop-one.one-index c.args.ended.now (omega arith))
