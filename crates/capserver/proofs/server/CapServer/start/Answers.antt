use Rattle.std.proofs.Common.{subst}
use Rattle.snapshot.specs.Pairs.{origin_of}
use Rattle.snapshot.specs.Places.{IsOf}
use Rattle.capserver.specs.Opened.{Opened}
use Rattle.capserver.proofs.server.CapServer.start.Goals as goal

-- the pair is of the server that L names
pub named-requires : goal.named-requires
named-requires g c = subst (λ (o : Opened). IsOf o.state o.history (origin_of c.into_parts-core.result.pair)) c.requires.opening c.into_parts-core.ensures.pair
