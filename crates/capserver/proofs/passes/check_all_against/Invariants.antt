use Rattle.std.proofs.Common.{◌≡◌, take}
use Rattle.capserver.specs.Passes.{AllBegin}
use Rattle.capserver.proofs.passes.check_all_against.Given as goal

abbrev pub invariant-loop-pass : goal.invariant-loop-pass
invariant-loop-pass g l = record { same : l.recorder ≡ l.fn.recorder; begin : AllBegin l.fn.recorder (take l.pass-index l.passes) }
