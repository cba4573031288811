use Rattle.std.proofs.Common.{length}
use Rattle.std.specs.Prelude.{IsFalse}
use Rattle.texts.specs.Watched.{has_failed, inner_of}
use Rattle.capscript.proofs.Histories.{SoFar}
use Rattle.capscript.proofs.running.answer_lines.Given as goal

abbrev pub invariant-loop-text : goal.invariant-loop-text
invariant-loop-text g l = record {
  so_far : SoFar l.fn.core l.core l.script l.rest l.number (g.W.Write.contents (inner_of l.fn.writer)) (g.W.Write.contents (inner_of l.writer));
  clear : IsFalse (has_failed l.writer);
}

abbrev pub decreases-loop-text : goal.decreases-loop-text
decreases-loop-text g l = length l.rest
