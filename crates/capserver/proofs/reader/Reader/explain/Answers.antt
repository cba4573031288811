use Rattle.std.proofs.Common.{subst, sym}
use Rattle.policy_view.specs.declared.view.View.{View}
use Rattle.policy_view.specs.Answers.{IsAnswer}
use Rattle.policy_view.specs.Visible.{Shows}
use Rattle.policy_view.proofs.Likeness.{shows-refl}
use Rattle.snapshot.specs.Rows.{Legal}
use Rattle.snapshot.specs.declared.value.Published.{Published}
use Rattle.capserver.proofs.Asking.{answered, never_unseen}
use Rattle.capserver.proofs.reader.Reader.explain.Goals as goal

pub returns-clause-answer : goal.returns-clause-answer
returns-clause-answer g c seen =
    let o = g.L.Server.opening in
    let value : Published = c.in-Some.reading.part.value in
    let by_all = subst (λ (v : Published). (real : View) → Shows v.view real → IsAnswer c.args.fs.now real c.args.question.now c.explain-answer.result) c.get.ensures c.explain-answer.ensures in
    answered o g.L.Server.history value c.args.fs.now c.args.question.now c.end_reading.result c.explain-answer.result c.in-Some.ensures.saw.value_is c.requires c.end_reading.ensures.known by_all

pub returns-clause-no_view : goal.returns-clause-no_view
returns-clause-no_view g c none =
    let view = c.get.result.now.view in
    absurd (never_unseen c.args.fs.now view c.args.question.now c.explain-answer.result (c.explain-answer.ensures view (shows-refl view)) none)

-- what is kept is what was read, by a proof of its own: a body that keeps another beginning is refused without a long search
pub invariant_of-self-2 : goal.invariant_of-self-2
invariant_of-self-2 g c = (c.end_reading.ensures.place, subst (Legal g.L.Server.opening) (sym c.end_reading.ensures.known) c.in-Some.ensures.saw.value_is.legal)
