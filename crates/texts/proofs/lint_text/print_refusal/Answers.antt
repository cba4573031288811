use Rattle.std.proofs.Common.{◌≡◌, ℕ, List, ◌++◌, append_assoc, ap, ◌∙◌}
use Rattle.std.specs.Prelude.{codes}
use Rattle.std.specs.Fmt.{decimal}
use Rattle.std.proofs.lemmas.Result.{on_ok_weaker}
use Rattle.policy_analysis.specs.Releases.{releases_text}
use Rattle.texts.specs.Comparing.{witness_text}
use Rattle.texts.proofs.lint_text.print_refusal.Goals as goal

in_row : (start number who question : List ℕ)
    → ((start ++ (codes "grant " ++ (number ++ (codes ": " ++ (who ++ codes ": refused by clients, "))))) ++ question) ++ codes "\n"
    ≡ start ++ (codes "grant " ++ (number ++ (codes ": " ++ (who ++ (codes ": refused by clients, " ++ (question ++ codes "\n"))))))
in_row start number who question = simp append_assoc

pub returns : goal.returns
returns c =
    let start : List ℕ = c.args.text.now.items in
    let number : List ℕ = decimal c.args.grant in
    let question : List ℕ = witness_text c.args.refusal.now.witness in
    on_ok_weaker c.print_str.result
    (λ more. more
    ∙ ap (λ (t : List ℕ). t ++ codes "\n")
    (c.in_ok-print_witness.ensures ∙ ap (λ (t : List ℕ). t ++ question) (c.in_ok-print_texts.ensures ∙ ap (λ (who : List ℕ). start ++ (codes "grant " ++ (number ++ (codes ": " ++ (who ++ codes ": refused by clients, "))))) c.text.ensures))
    ∙ in_row start number (releases_text c.args.refusal.now.releases) question)
    c.print_str.ensures
