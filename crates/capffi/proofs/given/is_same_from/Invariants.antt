use Rattle.std.proofs.Common.{◌≡◌, ◌+◌, ◌&&◌, drop}
use Rattle.std.specs.Prelude.{bytes_eq}
use Rattle.capffi.proofs.given.is_same_from.Given as goal

abbrev pub invariant-loop-step : goal.invariant-loop-step
invariant-loop-step l = (l.is_same && bytes_eq (drop (l.start + l.step) l.one) (drop (l.start + l.step) l.other)) ≡ bytes_eq (drop l.start l.one) (drop l.start l.other)
