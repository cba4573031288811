use Rattle.std.proofs.Common.{rules}
use Rattle.std.proofs.lemmas.Result.{on_ok_weaker}
use Rattle.queries.proofs.Looked.{by_releases}
use Rattle.queries.proofs.linting.print_by_releases.Goals as goal

pub returns : goal.returns
returns c =
    on_ok_weaker c.print_refusals.result
    (λ added. by_releases c.args.shape c.args.releases c.args.grants.now c.in_ok-odds.odds.items c.in_ok-found.found.items c.args.lines.now.items c.print_odds.new.lines.items c.print_refusals.new.lines.items
    (search rules) (search rules) (search rules) (search rules))
    c.print_refusals.ensures
