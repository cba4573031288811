use Rattle.std.proofs.Common.{◌++◌, arith, sym, ap, ◌∙◌}
use Rattle.std.specs.List.{flat_map}
use Rattle.std.proofs.lemmas.Bool.Decides.{nat_tests}
use Rattle.std.proofs.lemmas.List.{append-nil, take_all}
use Rattle.capexplain.specs.Replies.{holder_text}
use Rattle.capexplain.proofs.Holders.{some_holders}
use Rattle.texts.proofs.Texts.{texts-more}
use Rattle.capexplain.proofs.reply_text.print_holders.Goals as goal

pub loop-holder-init : goal.loop-holder-init
loop-holder-init c = sym (append-nil _)

pub loop-holder-preserved : goal.loop-holder-preserved
loop-holder-preserved c = texts-more holder_text c.args.text.now.items c.loop-holder.text.items _ c.args.holders.now c.loop-holder.holder-index _ (omega arith) c.loop-holder.invariant c.in_ok-print_holder.ensures

pub returns : goal.returns
returns c =
    c.loop-holder.invariant ∙ ap (λ holders. c.args.text.now.items ++ flat_map holder_text holders) (take_all c.loop-holder.holder-index c.args.holders.now (omega arith))
    ∙ ap (λ more. c.args.text.now.items ++ more) (sym (some_holders c.args.holders.now (grind (arith, nat_tests, c.is_empty.ensures, c.if-is_empty.false))))
