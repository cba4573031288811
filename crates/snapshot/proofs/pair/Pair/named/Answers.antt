use Rattle.std.proofs.Common.{◌∙◌, false, sym, subst, drop}
use Rattle.std.proofs.lemmas.Result.{MatchResult-at_ok}
use Rattle.left_right.specs.Sides.{view as place_view}
use Rattle.snapshot.specs.declared.value.Published.{Published}
use Rattle.snapshot.specs.Places.{IsOf}
use Rattle.snapshot.specs.Value.{staged_all}
use Rattle.snapshot.proofs.Publishing.{first_origin, staging_first, unstaged, view_first}
use Rattle.snapshot.proofs.Seeing.{begins}
use Rattle.snapshot.proofs.pair.Pair.named.Goals as goal

pub publish_as-writer-requires : goal.publish_as-writer-requires
publish_as-writer-requires g c next is =
    let value = c.args.self.writer.desk.shown.value in
    begins _ _ value next (unstaged value next _ is c.args.self.unstaged)

pub of-requires-clause-origin_known : goal.of-requires-clause-origin_known
of-requires-clause-origin_known g c =
    let value = c.args.self.writer.desk.shown.value in
    let shown = MatchResult-at_ok _ _ c.in-Ok.field-0 c.in-Ok.is c.publish_as-writer.ensures.values in
    let origin_known = MatchResult-at_ok _ _ c.in-Ok.field-0 c.in-Ok.is c.publish_as-writer.ensures.rule in
    let same = unstaged value c.publish_as-writer.result.0.desk.shown.value _ shown.0 c.args.self.unstaged in
    first_origin g.L.Server.opening g.L.Server.history (place_view c.args.self.writer.desk.place) (place_view c.publish_as-writer.result.0.desk.place) c.publish_as-writer.result.0.desk.shown.value.origin (subst (λ (v : Published). IsOf g.L.Server.opening g.L.Server.history v.origin) (sym same) c.requires) origin_known

pub of-requires-clause-staging : goal.of-requires-clause-staging
of-requires-clause-staging g c =
    let value = c.args.self.writer.desk.shown.value in
    let after = c.publish_as-writer.result.0 in
    let shown = MatchResult-at_ok _ _ c.in-Ok.field-0 c.in-Ok.is c.publish_as-writer.ensures.values in
    let same = unstaged value c.publish_as-writer.result.0.desk.shown.value _ shown.0 c.args.self.unstaged in
    let book = (λ i. (same i).rows.seen.book) ∙ (c.args.self.shows ∙ (sym c.args.self.book ∙ c.requires.book_is)) in
    staging_first g.L.Server.history after.desk.shown.value (drop after.behind after.log.items) _ book ((λ i. (same i).rows.seen.log) ∙ c.args.self.empty) shown.1 c.named.ensures

pub returns-in-Ok : goal.returns-in-Ok
returns-in-Ok g c =
    let value = c.args.self.writer.desk.shown.value in
    let shown = MatchResult-at_ok _ _ c.in-Ok.field-0 c.in-Ok.is c.publish_as-writer.ensures.values in
    let same = unstaged value c.publish_as-writer.result.0.desk.shown.value _ shown.0 c.args.self.unstaged in
    let view = (λ i. (staged_all (same i) (shown.1 i)).view) ∙ view_first g.L.Server.opening g.L.Server.history value c.requires c.args.self.tree c.args.self.sessions in
    c.of.ensures ∙ (λ i. record { shown = ((λ j. (same j).rows.seen.log) ∙ c.args.self.empty) i; rows = c.named.ensures i; lost = false; view = view i })
