use Rattle.std.proofs.Common.{◌++◌, arith, sym, ap, ◌∙◌}
use Rattle.std.specs.List.{flat_map}
use Rattle.std.proofs.lemmas.List.{append-nil, take_all}
use Rattle.capexplain.specs.Replies.{message_line}
use Rattle.texts.proofs.Texts.{texts-more}
use Rattle.capexplain.proofs.message_text.print_messages.Goals as goal

pub loop-message-init : goal.loop-message-init
loop-message-init c = sym (append-nil _)

pub loop-message-preserved : goal.loop-message-preserved
loop-message-preserved c =
    texts-more message_line c.args.text.now.items c.loop-message.text.items _ c.args.messages.now c.loop-message.message-index c.message-item.result (omega arith) c.loop-message.invariant
    (c.in_ok-print_line.ensures ∙ ap (λ message. c.loop-message.text.items ++ message_line message) c.message-item.is)

pub returns : goal.returns
returns c = c.loop-message.invariant ∙ ap (λ messages. c.args.text.now.items ++ flat_map message_line messages) (take_all c.loop-message.message-index c.args.messages.now (omega arith))
