use Rattle.std.proofs.Common.{◌≡◌, ℕ, List, ◌++◌, ap, ◌∙◌}
use Rattle.std.specs.Prelude.{IsFalse}
use Rattle.queries.specs.LogPieces.{teller_of}
use Rattle.queries.specs.Reported.{scope_of}
use Rattle.texts.specs.Watched.{has_failed, inner_of}
use Rattle.cli_queries.proofs.Logged.{end_written}
use Rattle.cli_queries.proofs.logging.tell_end.Goals as goal

pub returns-clause-told : goal.returns-clause-told
returns-clause-told g c =
    let says = c.in_ok-is_judged.ensures in
    let text : c.as_slice.result.now ≡ says.0 = c.as_slice.ensures.value ∙ says.1 ∙ ap (λ (t : List ℕ). t ++ says.0) c.new-reported.ensures.items in
    end_written (scope_of c.args.scope) (g.W.Write.contents (inner_of c.args.writer.now)) (g.W.Write.contents (inner_of c.write_text.new.writer)) (teller_of c.args.teller.now) c.in_ok-is_judged.is_judged says.0 c.as_slice.result.now c.judged_status-status.result
    (IsFalse (has_failed c.write_text.new.writer)) c.write_text.result says.2 text c.judged_status-status.ensures.judged c.write_text.ensures.status c.write_text.ensures.ok
