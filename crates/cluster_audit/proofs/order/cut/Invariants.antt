use Rattle.std.proofs.Common.{◌≡◌, ◌++◌, length, map}
use Rattle.texts.specs.ScriptLines.{lines}
use Rattle.cluster_audit.proofs.order.cut.Given as goal

abbrev pub invariant-loop-line : goal.invariant-loop-line
invariant-loop-line l = map (λ line. line.items) l.lines.items ++ lines l.rest ≡ lines l.text

abbrev pub decreases-loop-line : goal.decreases-loop-line
decreases-loop-line l = length l.rest
