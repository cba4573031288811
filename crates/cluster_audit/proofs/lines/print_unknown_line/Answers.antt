use Rattle.std.proofs.Common.{ℕ, List, codes, map, ◌++◌, ap, ◌∙◌}
use Rattle.std.proofs.lemmas.Result.{on_ok_weaker}
use Rattle.cluster_audit.specs.Lines.{place_text, unknown_text}
use Rattle.cluster_audit.proofs.Noting.{behind}
use Rattle.cluster_audit.proofs.lines.print_unknown_line.Goals as goal

pub returns : goal.returns
returns c =
    let between = c.print_place.new.text.items in
    let place : List ℕ = place_text (map (λ name. name.now) c.args.path.now) c.args.client.now c.args.session in
    on_ok_weaker c.print_texts.result
    (λ more. behind c.args.text.now.items between c.print_texts.new.text.items place (codes " holds what is " ++ unknown_text c.args.unknown) c.in_ok-print_place.ensures
    (more ∙ ap (λ (what : List ℕ). between ++ (codes " holds what is " ++ what)) c.unknown_text.ensures))
    c.print_texts.ensures
