use Rattle.std.proofs.Common.{◌≡◌, List, Some, subst, ℕ}
use Rattle.std.specs.Io.KnownBytes.{Appends}
use Rattle.std.specs.Prelude.{IsFalse, Ok, OnOk}
use Rattle.ceph_input.specs.Auth.{IsFaultOf, auth_of}
use Rattle.ceph_input.specs.FsNames.{fs_among}
use Rattle.texts.specs.Watched.{has_failed, inner_of}
use Rattle.cli_queries.specs.Fault.{IsFaultOfNames}
use Rattle.cli_queries.proofs.WhoAnswered.{attempt_refused, list_refused, names_kept, names_refused, no_memory_left, told, unwritten_who}
use Rattle.cli_queries.proofs.who_args.who.Goals as goal

pub returns-in_err-attempt-clause-err : goal.returns-in_err-attempt-clause-err
returns-in_err-attempt-clause-err g c =
    attempt_refused c.args.who_args.now (g.R.Read.remaining (inner_of c.args.reader.now)) (g.W.Write.contents (inner_of c.args.writer.now)) (has_failed c.args.reader.now) (has_failed c.args.writer.now)
    c.in_err-attempt.field-0.0 c.from_residual.result c.in_err-attempt.ensures.err c.from_residual.ensures.1

pub returns-clause-err : goal.returns-clause-err
returns-clause-err g c =
    unwritten_who c.args.who_args.now (g.R.Read.remaining (inner_of c.args.reader.now)) (g.W.Write.contents (inner_of c.args.writer.now)) (g.W.Write.contents (inner_of c.write_text.new.writer)) (has_failed c.read_script.new.reader) (has_failed c.write_text.new.writer)
    c.write_text.result c.write_text.ensures.err

pub returns-in_err-list-clause-err : goal.returns-in_err-list-clause-err
returns-in_err-list-clause-err g c =
    list_refused c.args.who_args.now (g.R.Read.remaining (inner_of c.args.reader.now)) (g.R.Read.remaining (inner_of c.read_script.new.reader)) c.in_ok-auth.auth.items c.in_ok-auth.ensures.ok c.in_ok-auth.ensures.end
    (g.W.Write.contents (inner_of c.args.writer.now)) (has_failed c.read_script.new.reader) (has_failed c.args.writer.now) c.in_err-list.field-0.0 c.from_residual-in_err-list.result
    (subst (λ (text : List ℕ). IsFaultOf c.in_err-list.field-0.0 (auth_of text)) c.as_slice.ensures.value c.in_err-list.ensures.err) c.from_residual-in_err-list.ensures.1

pub returns-in_err-who_args-clause-err : goal.returns-in_err-who_args-clause-err
returns-in_err-who_args-clause-err g c =
    no_memory_left c.args.who_args.now (g.R.Read.remaining (inner_of c.args.reader.now)) (g.R.Read.remaining (inner_of c.read_script.new.reader)) c.in_ok-auth.auth.items c.in_ok-auth.ensures.ok c.in_ok-auth.ensures.end
    (g.W.Write.contents (inner_of c.args.writer.now)) (has_failed c.read_script.new.reader) (has_failed c.args.writer.now) c.from_residual-in_err-who_args.result c.from_residual-in_err-who_args.ensures.1

pub returns-in_err-fs-clause-err : goal.returns-in_err-fs-clause-err
returns-in_err-fs-clause-err g c =
    let names = c.in_ok-who_args.field-0.items in
    let means = subst (λ (text : List ℕ). auth_of text ≡ Some (Ok c.in_ok-list.list)) c.as_slice.ensures.value c.in_ok-list.ensures.ok in
    names_refused c.args.who_args.now (g.R.Read.remaining (inner_of c.args.reader.now)) (g.R.Read.remaining (inner_of c.read_script.new.reader)) c.in_ok-auth.auth.items c.in_ok-auth.ensures.ok c.in_ok-auth.ensures.end
    c.in_ok-list.list names c.in_ok-attempt.attempt means c.in_ok-who_args.ensures c.in_ok-attempt.ensures.ok
    (g.W.Write.contents (inner_of c.args.writer.now)) (has_failed c.read_script.new.reader) (has_failed c.args.writer.now) c.in_err-fs.field-0.0 c.from_residual-in_err-fs.result
    (subst (λ (ns : List (List ℕ)). IsFaultOfNames ns c.in_ok-attempt.attempt.fs c.in_err-fs.field-0.0) c.as_slice-2.ensures.value c.in_err-fs.ensures.err) c.from_residual-in_err-fs.ensures.1

pub returns-in_err-answer-clause-err : goal.returns-in_err-answer-clause-err
returns-in_err-answer-clause-err g c =
    no_memory_left c.args.who_args.now (g.R.Read.remaining (inner_of c.args.reader.now)) (g.R.Read.remaining (inner_of c.read_script.new.reader)) c.in_ok-auth.auth.items c.in_ok-auth.ensures.ok c.in_ok-auth.ensures.end
    (g.W.Write.contents (inner_of c.args.writer.now)) (has_failed c.read_script.new.reader) (has_failed c.args.writer.now) c.from_residual-in_err-answer.result c.from_residual-in_err-answer.ensures.1

pub returns-clause-named : goal.returns-clause-named
returns-clause-named g c =
    let means = subst (λ (text : List ℕ). auth_of text ≡ Some (Ok c.in_ok-list.list)) c.as_slice.ensures.value c.in_ok-list.ensures.ok in
    names_kept c.args.who_args.now (g.R.Read.remaining (inner_of c.args.reader.now)) (g.R.Read.remaining (inner_of c.read_script.new.reader)) c.in_ok-auth.auth.items c.in_ok-auth.ensures.ok c.in_ok-auth.ensures.end
    c.in_ok-list.list c.in_ok-who_args.field-0.items c.in_ok-attempt.attempt means c.in_ok-who_args.ensures c.in_ok-attempt.ensures.ok c.write_text.result

pub returns-clause-reported : goal.returns-clause-reported
returns-clause-reported g c =
    let answer = c.in_ok-answer.answer in
    let means = subst (λ (text : List ℕ). auth_of text ≡ Some (Ok c.in_ok-list.list)) c.as_slice.ensures.value c.in_ok-list.ensures.ok in
    told c.args.who_args.now (g.R.Read.remaining (inner_of c.args.reader.now)) (g.R.Read.remaining (inner_of c.read_script.new.reader)) c.in_ok-auth.auth.items c.in_ok-auth.ensures.ok c.in_ok-auth.ensures.end
    c.in_ok-list.list c.in_ok-who_args.field-0.items c.in_ok-attempt.attempt means c.in_ok-who_args.ensures c.in_ok-attempt.ensures.ok
    (g.W.Write.contents (inner_of c.args.writer.now)) (g.W.Write.contents (inner_of c.write_text.new.writer)) c.in_ok-fs.fs answer c.judged_status-status.result _ c.write_text.result c.in_ok-auth.ensures.short
    (subst (λ (ns : List (List ℕ)). fs_among ns c.in_ok-attempt.attempt.fs ≡ Some c.in_ok-fs.fs) c.as_slice-2.ensures.value c.in_ok-fs.ensures.ok) c.in_ok-answer.ensures c.judged_status-status.ensures.judged c.write_text.ensures.status
    (subst (λ (lines : List ℕ). OnOk c.write_text.result (IsFalse (has_failed c.write_text.new.writer) × Appends (g.W.Write.contents (inner_of c.args.writer.now)) (g.W.Write.contents (inner_of c.write_text.new.writer)) lines)) c.as_slice-3.ensures.value c.write_text.ensures.ok)
