use Rattle.std.proofs.Common.{◌≡◌, take}
use Rattle.cli.specs.Served.{history_lines}
use Rattle.cli.proofs.history_text.history_lines.Given as goal

abbrev pub invariant-loop-row : goal.invariant-loop-row
invariant-loop-row l = l.text.items ≡ history_lines (take l.row-index l.rows)
