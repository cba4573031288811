use Rattle.capserver.proofs.Holding.{led_first, numbered_first, held_first}
use Rattle.capserver.proofs.locked.Locked.new.Goals as goal

pub invariant_of-result : goal.invariant_of-result
invariant_of-result g c =
    let asked = c.requires in (
      asked.rest.0,
      asked.rest.1,
      led_first g.L.Server.opening g.L.Server.max_rows c.args.core asked.opening asked.rows asked.max_rows,
      numbered_first c.args.core asked.rows,
      held_first g.L.Server.opening c.args.core c.args.calls.total c.args.publisher asked.opening asked.rows asked.room asked.calls asked.publisher,
    )
