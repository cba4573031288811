use Rattle.std.proofs.Common.{sym, ◌∙◌}
use Rattle.lockmachine.proofs.Queue.{oldest-least}
use Rattle.lockmachine.proofs.locks.Locks.drop_client.Goals as goal

pub returns-clause-least : goal.returns-clause-least
returns-clause-least c =
    oldest-least c.args.self.now.locks c.args.client c.in_ok-ticket.ticket c.oldest_of.ensures.sound (sym c.oldest_of.ensures.oldest ∙ c.in_ok-ticket.was)
