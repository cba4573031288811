use Rattle.std.proofs.Common.{sym, ◌∙◌}
use Rattle.cli.proofs.OfClients.{has_client}
use Rattle.cli.proofs.plan.Plan.take_event.Goals as goal

pub unreachable-requires : goal.unreachable-requires
unreachable-requires c =
    let read = rw c.in-Some.is at c.in_ok-client.ensures in
    let plain = rw c.if-not-self.false at c.requires.plain in
    has_client c.args.text.now c.in-Some.event plain read.event (sym read.client ∙ c.in_default-client.is)
