use Rattle.std.proofs.Common.{[], ◌∷◌, ◌++◌, ap, ◌∙◌, arith}
use Rattle.queries.specs.declared.question.Question.{Question}
use Rattle.queries.specs.Reported.{answer_to, of_line, scope_of, text_of}
use Rattle.queries.specs.Told.{is_judgement}
use Rattle.queries.proofs.LogTold.{answer_more, judged_more}
use Rattle.queries.proofs.log_text.print_answers.Goals as goal

pub loop-access-preserved : goal.loop-access-preserved
loop-access-preserved c =
    let scope = scope_of c.args.line.scope in
    let number = c.args.line.number in
    let has = c.args.has_path in
    let grants = c.args.grants.now in
    let said = c.in_ok-is_judgement.ensures in
    record {
      same = λ access. c.loop-access.invariant.same access;
      printed =
          answer_more scope number (answer_to has grants c.args.question) c.args.reported.now.items c.loop-access.reported.items _ c.args.accesses.now c.loop-access.access-index _ (omega arith) c.loop-access.invariant.printed
          (said.printed ∙ ap (λ (q : Question). c.loop-access.reported.items ++ text_of scope (of_line number (answer_to has grants q q.access ∷ []))) (c.loop-access.invariant.same _));
      judged =
          judged_more (answer_to has grants c.args.question) c.args.accesses.now c.loop-access.access-index _ c.loop-access.is_judged c.in_ok-is_judgement.is_judgement (omega arith) c.loop-access.invariant.judged
          (said.judged ∙ ap (λ (q : Question). is_judgement (answer_to has grants q q.access)) (c.loop-access.invariant.same _));
    }
