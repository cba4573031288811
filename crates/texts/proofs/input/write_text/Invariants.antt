use Rattle.std.proofs.Common.{◌≡◌, ℕ, List, ◌++◌, length}
use Rattle.std.specs.Prelude.{IsFalse}
use Rattle.std.specs.Io.KnownBytes.{Appends}
use Rattle.texts.specs.Watched.{has_failed, inner_of}
use Rattle.texts.proofs.input.write_text.Given as goal

-- the writer took what stands before the rest, and no write failed
abbrev pub invariant-loop-rest : goal.invariant-loop-rest
invariant-loop-rest g l = record {
  took : (taken : List ℕ) × (l.text ≡ taken ++ l.rest) × Appends (g.W.Write.contents (inner_of l.fn.writer)) (g.W.Write.contents (inner_of l.writer)) taken;
  clear : IsFalse (has_failed l.writer);
}

abbrev pub decreases-loop-rest : goal.decreases-loop-rest
decreases-loop-rest g l = length l.rest
