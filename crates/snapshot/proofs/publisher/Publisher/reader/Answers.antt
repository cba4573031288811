use Rattle.std.proofs.Common.{rules, ◌∙◌}
use Rattle.left_right.specs.Sides.{view as place_view}
use Rattle.snapshot.proofs.Publishing.{origin_same}
use Rattle.snapshot.proofs.Seeing.{admits, forks, merges}
use Rattle.snapshot.proofs.publisher.Publisher.reader.Goals as goal

pub reader-requires : goal.reader-requires
reader-requires g c = admits

pub tell-requires : goal.tell-requires
tell-requires g c = forks _ _

pub learn-requires : goal.learn-requires
learn-requires g c = record { own = search rules; rule = merges _ (place_view c.in_ok-reader.reader.place) _ (place_view c.tell.result) }

pub returns-clause-origin_known : goal.returns-clause-origin_known
returns-clause-origin_known g c =
    origin_same g.L.Server.opening g.L.Server.history (place_view c.self.inside.writer.desk.place) _ c.self.invariant.1 ((λ i. (c.learn.ensures.1 i).origin) ∙ (λ i. (c.tell.ensures.given.1 i).origin))
