use Rattle.std.proofs.Common.{◌≡◌, ℕ, ◌+◌, ◌-◌, List, [], ◌∷◌, ◌++◌, length, Some, None, sym, ap, ◌∙◌, arith, append_assoc, length-append}
use Rattle.std.specs.Option.{option_map}
use Rattle.inotree.specs.declared.node.Node.{Node}
use Rattle.inotree.specs.declared.node.Site.TheVariants.{Under}
use Rattle.std.proofs.lemmas.List.{append-nil}
use Rattle.inotree.specs.Tree.{dir_at, names_up, site_of, upward}
use Rattle.inotree.proofs.Walks.{names_up-none, names_up-step, no_dir, not_under}
use Rattle.inotree.proofs.inodes.Inodes.read_names_up.Goals as goal

pub loop-preserved : goal.loop-preserved
loop-preserved c =
    let n : ℕ = 32 - c.loop.counter in
    let at : ℕ = c.loop.at in
    let names : List (List ℕ) = c.loop.names in
    let name : List ℕ = c.in-Under.name in
    let site : site_of c.args.self.now at ≡ Some (Under c.in-Under.dir name) = ap (option_map (λ (n : Node). n.site)) (sym c.in-Some.ensures) ∙ ap Some c.in-Under.is in
    let rest : List (List ℕ) = names_up (32 - (c.loop.counter + 1)) c.args.self.now c.in-Under.dir.0 in
    let less : n - 1 ≡ 32 - (c.loop.counter + 1) = omega arith in
    let step : names_up n c.args.self.now at ≡ name ∷ rest =
    names_up-step n c.args.self.now at (omega arith) ∙ ap (λ s. upward s [] (λ dir name. name ∷ names_up (n - 1) c.args.self.now dir)) site
    ∙ ap (λ k. name ∷ names_up k c.args.self.now c.in-Under.dir.0) less in
    let pushed : c.push.new.self ≡ names ++ name ∷ [] = c.push.ensures ∙ ap (λ x. names ++ x ∷ []) c.as_bytes.ensures in
    (c.loop.invariant.0 ∙ ap (λ r. names ++ r) step ∙ sym (append_assoc names (name ∷ []) rest) ∙ ap (λ f. f ++ rest) (sym pushed), omega (arith, ap length pushed, length-append names (name ∷ [])))

pub returns-after-loop : goal.returns-after-loop
returns-after-loop c =
    let none : 32 - c.loop.counter ≡ 0 = omega arith in
    sym (c.loop.invariant.0 ∙ ap (λ k. c.loop.names ++ names_up k c.args.self.now c.loop.at) none ∙ ap (λ r. c.loop.names ++ r) (names_up-none c.args.self.now c.loop.at) ∙ append-nil c.loop.names)

pub returns-in_default : goal.returns-in_default
returns-in_default c =
    let site : site_of c.args.self.now c.loop.at ≡ None = ap (option_map (λ (n : Node). n.site)) (sym c.in_default.ensures) in
    sym (c.loop.invariant.0 ∙ ap (λ r. c.loop.names ++ r) (names_up-step (32 - c.loop.counter) c.args.self.now c.loop.at (omega arith) ∙ no_dir (site_of c.args.self.now c.loop.at) _ _ (ap dir_at site)) ∙ append-nil c.loop.names)

pub returns-in_default-site : goal.returns-in_default-site
returns-in_default-site c =
    let site : site_of c.args.self.now c.loop.at ≡ Some c.in-Some.node.now.site = ap (option_map (λ (n : Node). n.site)) (sym c.in-Some.ensures) in
    sym (c.loop.invariant.0 ∙ ap (λ r. c.loop.names ++ r) (names_up-step (32 - c.loop.counter) c.args.self.now c.loop.at (omega arith) ∙ no_dir (site_of c.args.self.now c.loop.at) _ _ (ap dir_at site ∙ not_under c.in-Some.node.now.site c.in_default-site.not-Under)) ∙ append-nil c.loop.names)
