use Rattle.std.proofs.Common.{◌≡◌, ◌+◌, length}
use Rattle.capserver.specs.Passes.{AllNew}
use Rattle.capserver.proofs.passes.make_passes.Given as goal

abbrev pub invariant-loop-at : goal.invariant-loop-at
invariant-loop-at g l = record {
  parts : l.rest.parts + l.at ≡ l.fn.rest.parts;
  none : l.rest.amount ≡ 0;
  new : AllNew 0 l.passes.items;
  many : length l.passes.items ≡ l.at;
  same : l.publisher ≡ l.fn.publisher;
}
