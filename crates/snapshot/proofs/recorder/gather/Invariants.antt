use Rattle.std.proofs.Common.{◌≡◌, ◌≤◌, take, length}
use mathlib.Core.List.{IsPrefix}
use Rattle.snapshot.proofs.recorder.gather.Given as goal

abbrev pub invariant-loop-at : goal.invariant-loop-at
invariant-loop-at g l = record { same : l.recorder ≡ take l.at l.history; more : IsPrefix l.fn.recorder l.recorder; within : l.at ≤ length l.history }
