use Rattle.std.proofs.Common.{◌≡◌, drop, take}
use Rattle.queries.specs.Cuts.{cut_first}
use Rattle.queries.proofs.Marks.{behind}
use Rattle.queries.proofs.cuts.cut_first.Given as goal

abbrev pub invariant-loop-place : goal.invariant-loop-place
invariant-loop-place l = behind (take l.place l.text) (cut_first l.mark (drop l.place l.text)) ≡ cut_first l.mark l.text
