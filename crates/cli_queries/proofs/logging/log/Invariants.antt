use Rattle.std.proofs.Common.{◌≡◌, ◌-◌, length}
use Rattle.std.specs.Prelude.{IsFalse}
use Rattle.queries.specs.LogPieces.{teller_of}
use Rattle.queries.specs.Reported.{scope_of}
use Rattle.texts.specs.Watched.{has_failed, inner_of}
use Rattle.cli_queries.proofs.Logged.{SoFar}
use Rattle.cli_queries.proofs.logging.log.Given as goal

-- what was read so far was told and written, and no read or write failed
abbrev pub invariant-pieces : goal.invariant-pieces
invariant-pieces g l = record {
  told : SoFar (scope_of l.scope) (g.R.Read.remaining (inner_of l.fn.reader)) (g.R.Read.remaining (inner_of l.reader)) (g.W.Write.contents (inner_of l.fn.writer)) (g.W.Write.contents (inner_of l.writer)) l.size (teller_of l.teller);
  room : length l.buffer ≡ 4096;
  reader_clear : IsFalse (has_failed l.reader);
  writer_clear : IsFalse (has_failed l.writer);
}

abbrev pub decreases-pieces : goal.decreases-pieces
decreases-pieces g l = 1152921504606846977 - l.size
