use Rattle.std.proofs.Common.{◌≡◌, ◌∙◌, ℕ, List, sym, subst, rules}
use Rattle.std.proofs.lemmas.List.Elements.{same_from_all_zip}
use Rattle.inotree.specs.Tree.{Nodes}
use Rattle.capstep.specs.History.{IsOpening}
use Rattle.capserver.proofs.opening.Opening.new.Goals as goal

pub new-requires-2-clause-opens : goal.new-requires-2-clause-opens
new-requires-2-clause-opens c =
    let state = c.in_ok-core.core.state in
    let opening = c.in_ok-core.ensures.opening in
    let copied = c.in_ok-name.ensures.cases in
    let name : c.in_ok-name.name ≡ c.args.fs = sym copied.3 ∙ same_from_all_zip _ _ _ copied.4 (λ x y same. same) ∙ copied.2 in (
      state,
      subst (λ (f : List ℕ). IsOpening f c.tree.result.now state) (sym name) (subst (λ (t : Nodes). IsOpening c.args.fs t state) (sym (c.tree.ensures ∙ opening.tree_is)) opening),
    )

pub new-requires-2-clause-sessions : goal.new-requires-2-clause-sessions
new-requires-2-clause-sessions c = λ i. ((c.sessions.ensures ∙ c.in_ok-core.ensures.opening.sessions_are) i).sessions

-- the pair is of a server that opens with what the core opens with
pub invariant_of-result : goal.invariant_of-result
invariant_of-result c =
    let state = c.in_ok-core.core.state in
    let made = c.in_ok-core.ensures in
    let copied = c.in_ok-name.ensures.cases in
    let name : c.in_ok-name.name ≡ c.args.fs = sym copied.3 ∙ same_from_all_zip _ _ _ copied.4 (λ x y same. same) ∙ copied.2 in (
      made.rows,
      search rules,
      name ∙ sym made.opening.fs_is,
      c.in_ok-pair.ensures state (subst (λ (f : List ℕ). IsOpening f c.tree.result.now state) (sym name) (subst (λ (t : Nodes). IsOpening c.args.fs t state) (sym (c.tree.ensures ∙ made.opening.tree_is)) made.opening)),
    )
