use Rattle.std.proofs.Common.{◌≡◌, ◌-◌, ◌≤◌, length}
use Rattle.std.specs.Prelude.{IsFalse}
use Rattle.std.specs.Io.KnownBytes.{Consumes}
use Rattle.texts.specs.Watched.{has_ended, has_failed, inner_of}
use Rattle.texts.proofs.input.read_script.Given as goal

-- what was read so far is what was taken from the reader, and no read failed or gave none
abbrev pub invariant-loop-buffer : goal.invariant-loop-buffer
invariant-loop-buffer g l = record {
  taken : Consumes (g.R.Read.remaining (inner_of l.fn.reader)) (g.R.Read.remaining (inner_of l.reader)) l.script.items;
  few : length l.script.items ≤ 16777217;
  room : length l.buffer ≡ 4096;
  clear : IsFalse (has_failed l.reader);
  unended : IsFalse (has_ended l.reader);
}

abbrev pub decreases-loop-buffer : goal.decreases-loop-buffer
decreases-loop-buffer g l = 16777217 - length l.script.items
