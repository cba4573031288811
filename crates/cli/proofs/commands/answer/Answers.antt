use Rattle.std.proofs.Common.{ℕ, List, refl, rules, sym, subst, ◌∙◌}
use Rattle.std.specs.Prelude.{IfErr}
use Rattle.std.proofs.lemmas.Result.{IfErr-at_err}
use Rattle.texts.specs.Watched.{has_failed, inner_of}
use Rattle.cli_queries.specs.Answers.{StopsComparing, StopsExplainArgs, StopsGrants, StopsLint}
use Rattle.cli_queries.specs.AuditArgs.{StopsAuditArgs}
use Rattle.cli_queries.specs.WhoArgs.{StopsWhoArgs}
use Rattle.queries.specs.Reported.{scope}
use Rattle.cli_queries.specs.Logging.{StopsLog}
use Rattle.cli_queries.specs.declared.fault.AnswerFault.{AnswerFault}
use Rattle.cli.proofs.Done.{at_ok}
use Rattle.cli.proofs.commands.answer.Goals as goal
use Rattle.cli.proofs.commands.answer.Goals.{in-Audit, in-Compare, in-Explain, in-Grants, in-Lint, in-Log, in-Who}

pub returns-in-Err-clause-err : goal.returns-in-Err-clause-err
returns-in-Err-clause-err g c = elim c.match-invocation.branch [
  | in-Explain w ↦
      let stops = λ (fault : AnswerFault). StopsExplainArgs w.in-Explain.explain_args fault (g.R.Read.remaining (inner_of c.args.reader.now)) (has_failed w.explain-answered.new.reader) (has_failed w.explain-answered.new.writer) (g.W.Write.contents (inner_of c.args.writer.now)) (g.W.Write.contents (inner_of w.explain-answered.new.writer)) in
      rw (w.in-Explain.is, w.reader-is, w.writer-is) (IfErr-at_err stops (sym w.answered-is ∙ c.in-Err.is) w.explain-answered.ensures.err)
  | in-Grants w ↦
      let stops = λ (text : List ℕ) (fault : AnswerFault). StopsGrants w.in-Grants.mds text fault (has_failed w.grants-answered.new.writer) (g.W.Write.contents (inner_of c.args.writer.now)) (g.W.Write.contents (inner_of w.grants-answered.new.writer)) in
      let reported = subst (λ (text : List ℕ). IfErr w.grants-answered.result (stops text)) w.as_slice.ensures.value w.grants-answered.ensures.fault in
      rw (w.in-Grants.is, w.writer-is) (IfErr-at_err (stops w.in-Grants.text.items) (sym w.answered-is ∙ c.in-Err.is) reported)
  | in-Compare w ↦
      let stops = λ (before after : List ℕ) (fault : AnswerFault). StopsComparing w.in-Compare.mds w.in-Compare.addr before after fault (has_failed w.compare_texts-answered.new.writer) (g.W.Write.contents (inner_of c.args.writer.now)) (g.W.Write.contents (inner_of w.compare_texts-answered.new.writer)) in
      let first = subst (λ (text : List ℕ). IfErr w.compare_texts-answered.result (stops text w.as_slice-in-Compare-2.result.now)) w.as_slice-in-Compare.ensures.value w.compare_texts-answered.ensures.fault in
      let reported = subst (λ (text : List ℕ). IfErr w.compare_texts-answered.result (stops w.in-Compare.old.items text)) w.as_slice-in-Compare-2.ensures.value first in
      rw (w.in-Compare.is, w.writer-is) (IfErr-at_err (stops w.in-Compare.old.items w.in-Compare.new.items) (sym w.answered-is ∙ c.in-Err.is) reported)
  | in-Lint w ↦
      let stops = λ (text : List ℕ) (fault : AnswerFault). StopsLint w.in-Lint.mds text fault (has_failed w.lint-answered.new.writer) (g.W.Write.contents (inner_of c.args.writer.now)) (g.W.Write.contents (inner_of w.lint-answered.new.writer)) in
      let reported = subst (λ (text : List ℕ). IfErr w.lint-answered.result (stops text)) w.as_slice-in-Lint.ensures.value w.lint-answered.ensures.fault in
      rw (w.in-Lint.is, w.writer-is) (IfErr-at_err (stops w.in-Lint.text.items) (sym w.answered-is ∙ c.in-Err.is) reported)
  | in-Who w ↦
      let stops = λ (fault : AnswerFault). StopsWhoArgs w.in-Who.who_args fault (g.R.Read.remaining (inner_of c.args.reader.now)) (has_failed w.who-answered.new.reader) (has_failed w.who-answered.new.writer) (g.W.Write.contents (inner_of c.args.writer.now)) (g.W.Write.contents (inner_of w.who-answered.new.writer)) in
      rw (w.in-Who.is, w.reader-is, w.writer-is) (IfErr-at_err stops (sym w.answered-is ∙ c.in-Err.is) w.who-answered.ensures.err)
  | in-Audit w ↦
      let stops = λ (fault : AnswerFault). StopsAuditArgs w.in-Audit.audit_args fault (g.R.Read.remaining (inner_of c.args.reader.now)) (has_failed w.audit-answered.new.reader) (has_failed w.audit-answered.new.writer) (g.W.Write.contents (inner_of c.args.writer.now)) (g.W.Write.contents (inner_of w.audit-answered.new.writer)) in
      rw (w.in-Audit.is, w.reader-is, w.writer-is) (IfErr-at_err stops (sym w.answered-is ∙ c.in-Err.is) w.audit-answered.ensures.err)
  | in-Log w ↦
      let stops = λ (fs : List ℕ) (fault : AnswerFault). StopsLog (scope fs w.in-Log.only_denied w.in-Log.mds w.in-Log.shape w.in-Log.counts) fault (g.R.Read.remaining (inner_of c.args.reader.now)) (has_failed w.log-answered.new.reader) (has_failed w.log-answered.new.writer) (g.W.Write.contents (inner_of c.args.writer.now)) (g.W.Write.contents (inner_of w.log-answered.new.writer)) in
      let reported = subst (λ (fs : List ℕ). IfErr w.log-answered.result (stops fs)) w.as_slice-in-Log.ensures.value w.log-answered.ensures.err in
      rw (w.in-Log.is, w.reader-is, w.writer-is) (IfErr-at_err (stops w.in-Log.fs.items) (sym w.answered-is ∙ c.in-Err.is) reported)
]

pub returns-in-Ok-clause-names : goal.returns-in-Ok-clause-names
returns-in-Ok-clause-names g c = elim c.match-invocation.branch [
  | in-Explain w ↦ rw (w.in-Explain.is, w.invocation-is) (refl, refl)
  | in-Grants w ↦ rw (w.in-Grants.is, w.invocation-is) (refl, refl)
  | in-Compare w ↦ rw (w.in-Compare.is, w.invocation-is) (refl, refl)
  | in-Lint w ↦ rw (w.in-Lint.is, w.invocation-is) (refl, refl)
  | in-Who w ↦ rw (w.in-Who.is, w.invocation-is) (at_ok (sym w.answered-is ∙ c.in-Ok.is) w.who-answered.ensures.named, w.who-answered.ensures.kept)
  | in-Audit w ↦ rw (w.in-Audit.is, w.invocation-is) (at_ok (sym w.answered-is ∙ c.in-Ok.is) w.audit-answered.ensures.named, w.audit-answered.ensures.kept)
  | in-Log w ↦ rw (w.in-Log.is, w.invocation-is) (refl, refl)
]
