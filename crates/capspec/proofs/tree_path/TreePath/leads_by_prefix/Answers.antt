use Rattle.std.proofs.Common.{ℕ, List, length, eqb, ap, sym, subst, ◌∙◌, eqb-true, eq-eqb}
use Rattle.std.specs.List.{starts_with}
use Rattle.std.specs.Str.{bytes_eq}
use Rattle.capspec.specs.Paths.{slashed}
use Rattle.capspec.specs.SharedPrefix.{IsSharedPrefix}
use Rattle.capspec.proofs.Led.{led}
use Rattle.capspec.proofs.tree_path.TreePath.leads_by_prefix.Goals as goal

pub returns-then-shared_prefix-self : goal.returns-then-shared_prefix-self
returns-then-shared_prefix-self c names shared_prefix =
    let here = subst (λ (t : List ℕ). IsSharedPrefix names t c.args.shared_prefix) (ap slashed (sym c.self.view_is) ∙ sym c.self.invariant.0) shared_prefix in
    led c.self.inside.text.items c.self.invariant.0 c.self.inside.count c.self.invariant.1 names c.args.shared_prefix here (eqb c.args.shared_prefix.size (length c.as_slice.result.now))
    (λ holds. (c.if-shared_prefix-self.true, eqb-true _ _ holds ∙ ap length c.as_slice.ensures.value))
    (λ _ size. eq-eqb _ _ (size ∙ ap length (sym c.as_slice.ensures.value)))
    ∙ ap (starts_with bytes_eq names) c.self.view_is

pub returns-else-shared_prefix-self : goal.returns-else-shared_prefix-self
returns-else-shared_prefix-self c names shared_prefix =
    let here = subst (λ (t : List ℕ). IsSharedPrefix names t c.args.shared_prefix) (ap slashed (sym c.self.view_is) ∙ sym c.self.invariant.0) shared_prefix in
    led c.self.inside.text.items c.self.invariant.0 c.self.inside.count c.self.invariant.1 names c.args.shared_prefix here (eqb c.args.shared_prefix.count c.self.inside.count)
    (λ holds. absurd (c.if-shared_prefix-self.false (eqb-true _ _ holds)))
    (λ same _. absurd (c.if-shared_prefix-self.false same))
    ∙ ap (starts_with bytes_eq names) c.self.view_is
