use Rattle.std.proofs.Common.{List, ap, sym, subst, ◌∙◌}
use Rattle.ceph_input.specs.Auth.{Named}
use Rattle.queries.specs.Attempts.{wanted_by}
use Rattle.queries.specs.Clients.{AreLines, SaysFor}
use Rattle.queries.proofs.ClientLines.{all_lines, both, no_line, not_all, one_line}
use Rattle.queries.proofs.clients.who_lines.Goals as goal
use Rattle.queries.proofs.clients.who_lines.Goals.{else-is_told, then-is_told+in_ok-is_judged+else-judges_all, then-is_told+in_ok-is_judged+then-judges_all}

pub loop-entity-preserved : goal.loop-entity-preserved
loop-entity-preserved c =
    let say = SaysFor c.args.telling (wanted_by c.args.attempt.now c.args.fs.now) c.args.attempt.now.attr c.args.mds in
    let es = c.entities-entities.result.now in
    let i = c.loop-entity.entity-index in
    let e = c.entity-item.result in
    let judged = c.loop-entity.judges_all in
    let text = c.loop-entity.lines.items in
    elim c.if-is_told.branch [
      | then-is_told+in_ok-is_judged+then-judges_all k ↦
          let reported = k.in_ok-is_judged.ensures in
          one_line say es i e judged text c.loop-entity-test.true c.entity-item.is c.loop-entity.invariant k.in_ok-is_judged.is_judged _ reported.0 _ (sym c.is_told.ensures ∙ k.if-is_told.true) reported.2 (ap (λ v. v.items) k.lines-is ∙ reported.1) (both _ _ _ k.if-judges_all.true k.judges_all-is)
      | then-is_told+in_ok-is_judged+else-judges_all k ↦
          let reported = k.in_ok-is_judged.ensures in
          one_line say es i e judged text c.loop-entity-test.true c.entity-item.is c.loop-entity.invariant k.in_ok-is_judged.is_judged _ reported.0 _ (sym c.is_told.ensures ∙ k.if-is_told.true) reported.2 (ap (λ v. v.items) k.lines-is ∙ reported.1) (not_all _ _ _ k.if-judges_all.false k.judges_all-is)
      | else-is_told k ↦ no_line say es i e judged text c.loop-entity-test.true c.entity-item.is c.loop-entity.invariant _ _ (sym c.is_told.ensures ∙ k.if-is_told.false) (ap (λ v. v.items) k.lines-is) k.judges_all-is
    ]

pub returns : goal.returns
returns c =
    let say = SaysFor c.args.telling (wanted_by c.args.attempt.now c.args.fs.now) c.args.attempt.now.attr c.args.mds in
    let judged = c.loop-entity.judges_all in
    let text = c.loop-entity.lines.items in
    subst (λ (es : List Named). AreLines say es judged text) c.entities-entities.ensures
    (all_lines say c.entities-entities.result.now c.loop-entity.entity-index judged text c.loop-entity-test.false c.loop-entity.invariant)
