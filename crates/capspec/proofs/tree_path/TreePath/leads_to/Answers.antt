use Rattle.std.proofs.Common.{List, ℕ, ap, ◌∙◌, map}
use Rattle.std.specs.List.{starts_with}
use Rattle.std.specs.Str.{bytes_eq}
use Rattle.capspec.proofs.Counted.{leads}
use Rattle.capspec.proofs.tree_path.TreePath.leads_to.Goals as goal

pub returns-then-self-names : goal.returns-then-self-names
returns-then-self-names c =
    leads c.self.inside.text.items c.self.invariant.0 c.self.inside.count c.self.invariant.1 c.args.names.now c.if-self-names.true c.is_text_of.result (rw c.as_slice.ensures.value at c.is_text_of.ensures)
    ∙ ap (λ (t : List (List ℕ)). starts_with bytes_eq (map (λ name. name.now) c.args.names.now) t) c.self.view_is
