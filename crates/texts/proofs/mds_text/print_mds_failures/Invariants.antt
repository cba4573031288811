use Rattle.std.proofs.Common.{◌≡◌, ◌++◌, take, codes}
use Rattle.std.specs.List.{enumerate_from, join_by}
use Rattle.texts.specs.Mds.{mds_failure}
use Rattle.texts.proofs.mds_text.print_mds_failures.Given as goal

abbrev pub invariant-loop-place : goal.invariant-loop-place
invariant-loop-place l = l.text.items ≡ l.initial.text.items ++ join_by mds_failure (codes ", ") (enumerate_from 1 (take l.place l.rules))
