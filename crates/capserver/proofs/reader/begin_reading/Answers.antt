use Rattle.std.proofs.Common.{◌≡◌, ◌∙◌}
use Rattle.left_right.specs.Sides.{view as place_view}
use Rattle.snapshot.specs.Places.{IsOriginKnown}
use Rattle.snapshot.proofs.Publishing.{has_seen, held_of, origin_same}
use Rattle.snapshot.proofs.Seeing.{looks}
use Rattle.capserver.proofs.reader.begin_reading.Goals as goal

pub enter_as-requires : goal.enter_as-requires
enter_as-requires g c x = looks g.L.Server.opening g.L.Server.history _ _ (held_of c.args.place.now c.take.result c.in-Some.reader _ c.requires c.take.ensures.value c.in-Some.is).1 x

pub returns-in-Ok-clause-saw : goal.returns-in-Ok-clause-saw
returns-in-Ok-clause-saw g c =
    let held = held_of c.args.place.now c.take.result c.in-Some.reader _ c.requires c.take.ensures.value c.in-Some.is in
    has_seen g.L.Server.opening g.L.Server.history c.args.known.now (place_view c.in-Some.reader.place) _ _ held.1 held.0 c.in-Ok.ensures.1

pub returns-in-Err-clause-none : goal.returns-in-Err-clause-none
returns-in-Err-clause-none g c none =
    let held = held_of c.args.place.now c.take.result c.in-Some.reader _ c.requires c.take.ensures.value c.in-Some.is in
    ((λ i. (c.in-Err.ensures.1 i).known) ∙ held.0, origin_same g.L.Server.opening g.L.Server.history (place_view c.in-Some.reader.place) _ held.1 (λ i. (c.in-Err.ensures.1 i).origin))
