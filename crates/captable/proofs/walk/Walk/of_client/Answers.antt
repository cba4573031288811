use Rattle.cap_arena.specs.Lists.{OfClient, keys}
use Rattle.captable.proofs.NodesAt.{place-first}
use Rattle.captable.proofs.walk.Walk.of_client.Goals as goal

pub invariant_of-result : goal.invariant_of-result
invariant_of-result c = place-first (keys c.args.lists.now (OfClient c.args.client)) c.first_of_client-at.result c.first_of_client-at.ensures.first
