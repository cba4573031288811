use Rattle.std.proofs.Common.{◌≡◌, ◌++◌, take, codes}
use Rattle.std.specs.List.{enumerate_from, join_by}
use Rattle.texts.specs.Explaining.{failure_text}
use Rattle.texts.proofs.explain_text.print_failures.Given as goal

abbrev pub invariant-loop-place : goal.invariant-loop-place
invariant-loop-place l = l.line.items ≡ l.initial.line.items ++ join_by failure_text (codes ", ") (enumerate_from 1 (take l.place l.rules))
