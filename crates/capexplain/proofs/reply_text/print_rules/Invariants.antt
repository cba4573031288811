use Rattle.std.proofs.Common.{◌≡◌, ◌++◌, take, codes}
use Rattle.std.specs.List.{enumerate_from, join_by}
use Rattle.capexplain.specs.Replies.{rule_text}
use Rattle.capexplain.proofs.reply_text.print_rules.Given as goal

abbrev pub invariant-loop-place : goal.invariant-loop-place
invariant-loop-place l = l.text.items ≡ l.initial.text.items ++ join_by rule_text (codes ",") (enumerate_from 1 (take l.place l.rules))
