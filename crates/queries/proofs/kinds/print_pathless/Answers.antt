use Rattle.std.proofs.Common.{◌≡◌, ℕ, List, codes, ◌++◌, append_assoc, ap, ◌∙◌}
use Rattle.std.proofs.lemmas.Result.{on_ok_weaker}
use Rattle.queries.specs.Kinds.{any_outcome, any_reason, said_to}
use Rattle.queries.proofs.kinds.print_pathless.Goals as goal

in_a_row : (start a b c : List ℕ) → ((start ++ a) ++ b) ++ c ≡ start ++ (a ++ (b ++ c))
in_a_row start a b c = simp append_assoc

pub returns : goal.returns
returns c =
    let start : List ℕ = c.args.text.now.items in
    let place : List ℕ = codes "without a path" in
    let reason : List ℕ = any_reason c.args.any in
    on_ok_weaker c.print_any_reason.result
    (λ more. more
    ∙ ap (λ (t : List ℕ). t ++ reason) (c.in_ok-print_str.ensures ∙ ap (λ (t : List ℕ). t ++ place) (c.in_ok-print_said_to.ensures ∙ ap (λ (o : List ℕ). start ++ said_to o c.args.caller.now) c.any_outcome.ensures))
    ∙ in_a_row start (said_to (any_outcome c.args.any) c.args.caller.now) place reason) c.print_any_reason.ensures
