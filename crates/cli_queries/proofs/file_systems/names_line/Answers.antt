use Rattle.std.proofs.Common.{ℕ, List, ◌++◌, ap, ◌∙◌}
use Rattle.std.specs.Prelude.{codes}
use Rattle.cli_queries.specs.FileSystems.{listed}
use Rattle.cli_queries.proofs.file_systems.names_line.Goals as goal

pub returns : goal.returns
returns c =
    let names = listed c.args.names.now in
    c.in_ok-push.ensures.items
    ∙ ap (λ (t : List ℕ). t ++ codes "\n") (c.in_ok-print_names.ensures ∙ ap (λ (t : List ℕ). t ++ names) c.in_ok-line.ensures.items)
