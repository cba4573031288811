use Rattle.std.proofs.Common.{rules}
use Rattle.queries.proofs.Looked.{one_odd_more}
use Rattle.queries.proofs.linting.print_odds.Goals as goal

pub loop-odd-preserved : goal.loop-odd-preserved
loop-odd-preserved c =
    one_odd_more c.args.shape c.args.releases c.args.odds.now c.loop-odd.odd-index _ c.args.lines.now.items c.loop-odd.lines.items c.print_one_odd.new.lines.items c.loop-odd-test.true (search rules) c.loop-odd.invariant c.in_ok-print_one_odd.ensures
