use Rattle.std.proofs.Common.{◌≡◌, ◌++◌, take}
use Rattle.std.specs.List.{flat_map}
use Rattle.capexplain.specs.Replies.{message_line}
use Rattle.capexplain.proofs.message_text.print_messages.Given as goal

abbrev pub invariant-loop-message : goal.invariant-loop-message
invariant-loop-message l = l.text.items ≡ l.initial.text.items ++ flat_map message_line (take l.message-index l.messages)
