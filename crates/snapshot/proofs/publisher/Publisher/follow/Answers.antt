use Rattle.std.proofs.Common.{drop, sym, subst, ◌∙◌}
use mathlib.Core.List.{IsPrefix}
use Rattle.snapshot.specs.Publishing.{Publishing}
use Rattle.snapshot.proofs.Beginnings.{prefix_self}
use Rattle.left_right.specs.Sides.{view as place_view}
use Rattle.snapshot.proofs.Publishing.{origin_same, staging_more}
use Rattle.snapshot.proofs.publisher.Publisher.follow.Goals.{else-stage_changes, then-stage_changes}
use Rattle.snapshot.proofs.publisher.Publisher.follow.Goals as goal

-- all is staged, or the rows could not be, or what leads to their view could not be
pub invariant_of-self : goal.invariant_of-self
invariant_of-self g c =
    let before = c.self.inside in
    let value = before.writer.desk.shown.value in
    let stages = drop before.writer.behind before.writer.log.items in
    let mid = c.stage_changes.new.writer in
    let lost = c.if-stage_changes.lost in
    elim c.if-stage_changes.branch [
      | then-stage_changes w ↦
          let made = w.stage_history in
          let after = made.new.writer in
          rw w.self-inside-is (
            staging_more g.L.Server.history value after.desk.shown.value stages (drop after.behind after.log.items) before.recorder made.new.recorder c.args.history.now before.lost lost c.self.invariant.0
                (λ i. ((made.ensures.desk ∙ c.stage_changes.ensures.desk) i).shown.value) made.ensures.more (λ there. made.ensures.whole (cc (there, w.lost-is))) (λ there. made.ensures.log (cc (there, w.lost-is))) (λ there. made.ensures.book (cc (there, w.lost-is))),
            origin_same g.L.Server.opening g.L.Server.history _ _ c.self.invariant.1 (λ i. (place_view ((made.ensures.desk ∙ c.stage_changes.ensures.desk) i).place).origin),
          )
      | else-stage_changes w ↦
          rw w.self-inside-is (
            staging_more g.L.Server.history value mid.desk.shown.value stages (drop mid.behind mid.log.items) before.recorder before.recorder c.args.history.now before.lost lost c.self.invariant.0
                (λ i. (c.stage_changes.ensures.desk i).shown.value) (prefix_self before.recorder) (λ there. absurd (cc (there, w.lost-is, w.if-stage_changes.false))) (λ there. absurd (cc (there, w.lost-is, w.if-stage_changes.false))) (λ there. absurd (cc (there, w.lost-is, w.if-stage_changes.false))),
            origin_same g.L.Server.opening g.L.Server.history _ _ c.self.invariant.1 (λ i. (place_view (c.stage_changes.ensures.desk i).place).origin),
          )
    ]

pub returns-clause-begins : goal.returns-clause-begins
returns-clause-begins g c =
    elim c.if-stage_changes.branch [
      | then-stage_changes w ↦ rw w.self-inside-is w.stage_history.ensures.begins
      | else-stage_changes w ↦ rw w.self-inside-is (subst (λ (p : Publishing). IsPrefix p.rows c.args.history.now) (sym c.self.view_is) c.requires.begins)
    ]
