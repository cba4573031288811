use Rattle.std.proofs.Common.{◌≡◌, ◌++◌, List, ℕ, ap, sym, ◌∙◌}
use Rattle.capspec.specs.Paths.{names_of, slashed}
use Rattle.capspec.proofs.Slashed.{same_names}
use Rattle.capspec.proofs.tree_path.TreePath.from_text.Goals as goal

pub from_slashed-requires-in-Ok : goal.from_slashed-requires-in-Ok
from_slashed-requires-in-Ok c =
    let text : List ℕ = c.args.text.now in
    let written : c.write_names.new.text.items ≡ slashed (names_of text) = c.in-Ok.ensures ∙ ap (λ (t : List ℕ). t ++ slashed (names_of text)) c.new-slashed.ensures.items in
    written ∙ ap slashed (sym (ap names_of written ∙ same_names text))

pub returns-in-Ok : goal.returns-in-Ok
returns-in-Ok c =
    let text : List ℕ = c.args.text.now in
    let written : c.write_names.new.text.items ≡ slashed (names_of text) = c.in-Ok.ensures ∙ ap (λ (t : List ℕ). t ++ slashed (names_of text)) c.new-slashed.ensures.items in
    c.from_slashed-in-Ok.ensures ∙ ap names_of written ∙ same_names text
