use Rattle.std.proofs.Common.{◌≡◌, ◌++◌, take}
use Rattle.std.specs.List.{flat_map}
use Rattle.capexplain.specs.Replies.{holder_text}
use Rattle.capexplain.proofs.reply_text.print_holders.Given as goal

abbrev pub invariant-loop-holder : goal.invariant-loop-holder
invariant-loop-holder l = l.text.items ≡ l.initial.text.items ++ flat_map holder_text (take l.holder-index l.holders)
