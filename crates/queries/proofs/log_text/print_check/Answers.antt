use Rattle.std.proofs.Common.{Bool, List, inl, inr, map, ap, refl, ◌∙◌}
use Rattle.std.specs.Prelude.{is_some}
use Rattle.capgrant.specs.declared.access.Access.{Access}
use Rattle.queries.specs.Before.{given_texts_of}
use Rattle.queries.specs.Checks.{texts_of}
use Rattle.queries.specs.Reported.{Says, answer_to, scope_of}
use Rattle.queries.specs.Told.Told.{unknown}
use Rattle.queries.proofs.LogTold.{all_told, of_fault, one_told}
use Rattle.queries.proofs.log_text.print_check.Goals as goal

pub returns-in_default : goal.returns-in_default
returns-in_default c =
    one_told (scope_of c.args.line.scope) c.args.line.number c.args.reported.now.items c.print_told.new.reported.items (unknown c.args.check.now.mask.now)
    (Says (given_texts_of c.args.given.now) (texts_of c.args.check.now)) c.print_told.result (inl (c.in_default.ensures, refl)) c.print_told.ensures.printed c.print_told.ensures.judged

pub returns-in-Err : goal.returns-in-Err
returns-in-Err c =
    of_fault (scope_of c.args.line.scope) c.args.line.number c.args.reported.now.items c.print_fault.new.reported.items c.in-Err.fault
    (Says (given_texts_of c.args.given.now) (texts_of c.args.check.now)) c.print_fault.result
    (λ t tells. inr (
      c.fill.new.values,
      c.in_ok-fill.ensures,
      inr (record { fault = c.in-Err.fault; first = c.in-Err.ensures.err; one = t; tells = tells; told_is = refl }),
    )) c.print_fault.ensures

pub returns : goal.returns
returns c =
    let question = c.in-Ok.question in
    let grants : List _ = c.args.check.now.grants.now in
    let asked = c.as_slice-accesses.ensures.value ∙ c.in_ok-asked.ensures in
    all_told (scope_of c.args.line.scope) c.args.line.number c.args.reported.now.items c.print_answers.new.reported.items (map (answer_to c.has_path.result grants question) c.as_slice-accesses.result.now)
    (Says (given_texts_of c.args.given.now) (texts_of c.args.check.now)) c.print_answers.result
    (inr (
      c.fill.new.values,
      c.in_ok-fill.ensures,
      inl (record {
        mask = c.in-Some.mask;
        question = question;
        is_mask = c.in-Some.ensures;
        asks = c.in-Ok.ensures.ok;
        told_is =
            ap (λ (has : Bool). map (answer_to has grants question) c.as_slice-accesses.result.now) c.has_path.ensures
            ∙ ap (λ (accesses : List Access). map (answer_to (is_some (given_texts_of c.args.given.now).path) grants question) accesses) asked;
      }),
    )) c.print_answers.ensures.printed c.print_answers.ensures.judged
