use Rattle.std.proofs.Common.{◌≡◌, ℕ, List, codes, ◌++◌, append_assoc, ap, ◌∙◌}
use Rattle.std.proofs.lemmas.Result.{on_ok_weaker}
use Rattle.texts.specs.Quoting.{quoted}
use Rattle.cluster_audit.specs.Lines.{why_text}
use Rattle.cluster_audit.proofs.lines.print_group.Goals as goal

client_behind : (start why client : List ℕ) → (start ++ why) ++ (codes " " ++ (client ++ codes "\n")) ≡ start ++ ((why ++ (codes " " ++ client)) ++ codes "\n")
client_behind start why client = simp append_assoc

pub returns : goal.returns
returns c =
    let found = c.args.found.now in
    let client : List ℕ = quoted c.args.client.now in
    on_ok_weaker c.print_texts.result
    (λ more. more ∙ ap (λ (t : List ℕ). t ++ (codes " " ++ (client ++ codes "\n"))) c.in_ok-print_why.ensures ∙ client_behind c.args.text.now.items (why_text found.missing found.denial) client)
    c.print_texts.ensures
