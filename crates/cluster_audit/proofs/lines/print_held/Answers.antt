use Rattle.std.proofs.Common.{Bool, List, ℕ, codes, ◌++◌, ap, ◌∙◌}
use Rattle.std.proofs.lemmas.Result.{on_ok_weaker}
use Rattle.std.specs.Prelude.{map}
use Rattle.cluster_audit.specs.Findings.{is_unjudged}
use Rattle.cluster_audit.specs.Lines.{beyond_text, place_text, unjudged_text}
use Rattle.cluster_audit.proofs.Noting.{behind}
use Rattle.cluster_audit.proofs.lines.print_held.Goals as goal

pub returns : goal.returns
returns c =
    let last = c.print_str.new.text.items in
    let held = c.args.held.now in
    let found = c.args.found.now in
    let place : List ℕ = place_text (map (λ name. name.now) held.path.now) held.client.now held.session in
    let beyond : List ℕ = beyond_text held.issued held.pending found in
    let end : List ℕ = unjudged_text (is_unjudged held.unchecked found.caps) ++ codes "\n" in
    on_ok_weaker c.print_str.result
    (λ more. behind c.args.text.now.items c.print_place.new.text.items last place (beyond ++ end) c.in_ok-print_place.ensures
    (behind c.print_place.new.text.items c.print_beyond.new.text.items last beyond end c.in_ok-print_beyond.ensures
    (more ∙ ap (λ (t : List ℕ). c.print_beyond.new.text.items ++ t) (c.line_end.ensures ∙ ap (λ (b : Bool). unjudged_text b ++ codes "\n") c.is_unjudged.ensures))))
    c.print_str.ensures
