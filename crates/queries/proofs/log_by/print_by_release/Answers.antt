use Rattle.std.proofs.Common.{Bool, List, [], ◌∷◌, inl, inr, ap, refl, subst, ◌∙◌}
use Rattle.std.specs.Prelude.{is_some}
use Rattle.release_grants.specs.declared.grant.Grant.{Grant}
use Rattle.queries.specs.declared.mds.MdsAsking.{MdsAsking}
use Rattle.queries.specs.Before.{given_texts_of}
use Rattle.queries.specs.Checks.{texts_of}
use Rattle.queries.specs.Mds.{IsMdsFault}
use Rattle.queries.specs.Reported.{SaysThere, answer_there, asking_all, scope_of}
use Rattle.queries.specs.Told.{Told}
use Rattle.queries.specs.Told.Told.{not_read, unknown}
use Rattle.queries.proofs.LogTold.{of_fault, one_told}
use Rattle.queries.proofs.log_by.print_by_release.Goals as goal

pub returns-in_default : goal.returns-in_default
returns-in_default c =
    one_told (scope_of c.args.line.scope) c.args.line.number c.args.reported.now.items c.print_told.new.reported.items (unknown c.args.check.now.mask.now)
    (SaysThere c.args.release (given_texts_of c.args.given.now) (texts_of c.args.check.now)) c.print_told.result (inl (c.in_default.ensures, refl)) c.print_told.ensures.printed c.print_told.ensures.judged

pub returns-in-Err-NotRead : goal.returns-in-Err-NotRead
returns-in-Err-NotRead c =
    one_told (scope_of c.args.line.scope) c.args.line.number c.args.reported.now.items c.print_told-in-Err-NotRead.new.reported.items (not_read c.in-Err-NotRead.found)
    (SaysThere c.args.release (given_texts_of c.args.given.now) (texts_of c.args.check.now)) c.print_told-in-Err-NotRead.result
    (inr (inl (record { found = c.in-Err-NotRead.found; is_fault = subst (IsMdsFault c.args.release c.args.check.now.grants.now) c.in-Err-NotRead.field-0-is c.in-Err-NotRead.ensures.err; told_is = refl })))
    (rw c.in-Err-NotRead.field-0-is at c.print_told-in-Err-NotRead.ensures.printed) c.print_told-in-Err-NotRead.ensures.judged

pub returns-in-Err : goal.returns-in-Err
returns-in-Err c =
    of_fault (scope_of c.args.line.scope) c.args.line.number c.args.reported.now.items c.print_fault.new.reported.items c.in-Err.fault
    (SaysThere c.args.release (given_texts_of c.args.given.now) (texts_of c.args.check.now)) c.print_fault.result
    (λ t tells. inr (inr (
      c.fill.new.values,
      c.in_ok-fill.ensures,
      inr (record { fault = c.in-Err.fault; first = c.in-Err.ensures.err; one = t; tells = tells; told_is = refl }),
    ))) c.print_fault.ensures

pub returns : goal.returns
returns c =
    let release = c.args.release in
    let has : Bool = is_some (given_texts_of c.args.given.now).path in
    let asking : MdsAsking = asking_all c.in-Some.mask c.in-Ok-read.asking in
    let told : Told = answer_there c.has_path.result release c.as_slice.result.now c.asking_all-asking.result in
    one_told (scope_of c.args.line.scope) c.args.line.number c.args.reported.now.items c.print_said_by.new.reported.items told
    (SaysThere release (given_texts_of c.args.given.now) (texts_of c.args.check.now)) c.print_said_by.result
    (inr (inr (
      c.fill.new.values,
      c.in_ok-fill.ensures,
      inl (record {
        mask = c.in-Some.mask;
        grants = c.in-Ok.grants;
        asking = c.in-Ok-read.asking;
        numbers = c.in-Some.ensures;
        reads = c.in-Ok.ensures.ok;
        asks = c.in-Ok-read.ensures.ok;
        told_is =
            ap (λ (b : Bool). answer_there b release c.as_slice.result.now c.asking_all-asking.result ∷ []) c.has_path.ensures
            ∙ ap (λ (gs : List Grant). answer_there has release gs c.asking_all-asking.result ∷ []) c.as_slice.ensures
            ∙ ap (λ (a : MdsAsking). answer_there has release c.in-Ok.grants a ∷ []) c.asking_all-asking.ensures;
      }),
    ))) c.print_said_by.ensures.printed c.print_said_by.ensures.judged
