use Rattle.std.proofs.Common.{sym, subst, ap, ◌∙◌, drop}
use Rattle.snapshot.specs.Publishing.{IsReady, Publishing}
use Rattle.snapshot.proofs.Publishing.{origin_after, publishes, staging_after}
use Rattle.snapshot.proofs.publisher.Publisher.publish.Goals as goal

pub publish_as-writer-requires : goal.publish_as-writer-requires
publish_as-writer-requires g c next is =
    let o = g.L.Server.opening in
    let h = g.L.Server.history in
    let writer = c.self.inside.writer in
    let staged = c.self.invariant.0 in
    let whole = c.if-self.false in
    let ready = subst (IsReady o) (sym c.self.view_is) (c.requires (sym (ap (λ (p : Publishing). p.lost) c.self.view_is) ∙ whole)) in
    publishes o h _ _ writer.desk.shown.value next (drop writer.behind writer.log.items) c.self.inside.recorder c.self.inside.lost c.self.invariant.1 staged.begins (staged.book_is whole) (staged.rows_are whole) ready is

pub invariant_of-publisher : goal.invariant_of-publisher
invariant_of-publisher g c =
    let writer = c.self.inside.writer in
    let after = c.publish_as-writer.result.0 in (
      staging_after g.L.Server.history writer.desk.shown.value after.desk.shown.value (drop writer.behind writer.log.items) (drop after.behind after.log.items) c.self.inside.recorder c.self.inside.lost c.publish_as-writer.result.1 c.self.invariant.0 c.if-self.false c.publish_as-writer.ensures.values,
      origin_after g.L.Server.opening g.L.Server.history _ _ after.desk.shown.value c.publish_as-writer.result.1 c.self.invariant.1 c.publish_as-writer.ensures.rule,
    )
