use Rattle.std.proofs.Common.{sym}
use Rattle.capbits.proofs.Rowed.{remove_nothing}
use Rattle.sessiontab.proofs.connected.Connected.remove.Goals as goal

pub returns-in-None-clause-ended : goal.returns-in-None-clause-ended
returns-in-None-clause-ended c = remove_nothing c.args.self.now c.args.client.0 (sym c.in-None.ensures)
