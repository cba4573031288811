use Rattle.std.proofs.Common.{◌≡◌, ℕ, List, ◌++◌, ap, ◌∙◌}
use Rattle.queries.specs.LogPieces.{told_now}
use Rattle.queries.specs.Reported.{scope_of, text_of}
use Rattle.texts.specs.Watched.{inner_of}
use Rattle.texts.proofs.KnownBytes.{appends_same}
use Rattle.cli_queries.proofs.logging.tell_piece.Goals as goal

pub returns-clause-told : goal.returns-clause-told
returns-clause-told g c =
    let says = c.in_ok-take.ensures in
    let told : List ℕ = told_now (scope_of c.args.scope) (text_of (scope_of c.args.scope) says.0) in
    let text : c.as_slice.result.now ≡ told = c.as_slice.ensures.value ∙ says.1 ∙ ap (λ (t : List ℕ). t ++ told) c.new-reported.ensures.items in
    (says.0, says.2, appends_same (g.W.Write.contents (inner_of c.args.writer.now)) (g.W.Write.contents (inner_of c.write_text.new.writer)) c.as_slice.result.now told text c.in_ok-write_text.ensures.ok.1)
