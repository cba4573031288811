use Rattle.std.proofs.Common.{◌≡◌, ℕ, List, ◌++◌, ap, ◌∙◌, append_assoc}
use Rattle.std.specs.Prelude.{codes}
use Rattle.std.specs.Fmt.{decimal}
use Rattle.texts.specs.Quoting.{quoted}
use Rattle.queries.proofs.told.print_unknown.Goals as goal

in_a_row : (start a b c d : List ℕ) → ((start ++ (a ++ b)) ++ c) ++ d ≡ start ++ (a ++ (b ++ (c ++ d)))
in_a_row start a b c d = simp append_assoc

pub returns : goal.returns
returns c =
    c.in_ok-push.ensures.items
    ∙ ap (λ (t : List ℕ). t ++ codes "\n") (c.in_ok-print_quoted.ensures ∙ ap (λ (t : List ℕ). t ++ quoted c.args.mask.now) c.in_ok-print.ensures)
    ∙ in_a_row c.args.reported.now.items (decimal c.args.number) (codes ": unknown mask ") (quoted c.args.mask.now) (codes "\n")
