use Rattle.std.proofs.Common.{◌≡◌, ◌++◌, take}
use Rattle.queries.specs.Linting.{odd_things, things_in}
use Rattle.queries.proofs.linting.print_odds.Given as goal

abbrev pub invariant-loop-odd : goal.invariant-loop-odd
invariant-loop-odd l = l.lines.items ≡ l.fn.lines.items ++ things_in l.shape (odd_things l.releases (take l.odd-index l.odds))
