use Rattle.std.proofs.Common.{◌≡◌, ℕ, arith, false, List, [], length, Option, None, Some, reverse, refl, sym, ap, ◌∙◌}
use Rattle.std.specs.Prelude.{◌==◌}
use Rattle.std.proofs.lemmas.Bool.{eqb-true}
use Rattle.std.proofs.lemmas.List.{nil_from_length}
use Rattle.inotree.specs.declared.node.Presence.{Presence}
use Rattle.inotree.specs.declared.node.Presence.TheVariants.{Gone, Here, NoIno}
use Rattle.inotree.specs.declared.node.Site.{Site}
use Rattle.inotree.specs.declared.node.Site.TheVariants.{Root, Stray, Under}
use Rattle.inotree.specs.Inodes.{InodeMap}
use Rattle.inotree.specs.Tree.{Nodes, names_up, path_at, path_of, presence, presence_at, site_of, upward}
use Rattle.inotree.proofs.Walks.{names_up-step}
use Rattle.inotree.proofs.tree.Tree.read_path.Goals as goal

path_when : (nodes : InodeMap) (ino : ℕ) (p : Presence) → presence nodes ino ≡ p → path_of nodes ino ≡ path_at p (names_up 32 nodes ino)
unfolding path_of
path_when nodes ino p is = ap (λ p. path_at p (names_up 32 nodes ino)) is

no_path_at : (p : Presence) (names : List (List ℕ)) → (p ≡ Here → ⊥) → path_at p names ≡ None
no_path_at NoIno names not_here = refl
no_path_at Gone names not_here = refl
no_path_at Here names not_here = absurd (not_here refl)

-- who stands under a name has a path
here_when : (s : Option Site) (f : ℕ → List ℕ → List (List ℕ)) → (length (upward s [] f) == 0) ≡ false → presence_at s ≡ Here
here_when None f some = absurd (cc)
here_when (Some Stray) f some = absurd (cc)
here_when (Some Root) f some = refl
here_when (Some (Under dir name)) f some = refl

pub returns-in-Here : goal.returns-in-Here
returns-in-Here c =
    let names : List (List ℕ) = c.read_names_up.new.names in
    let walk : names ≡ names_up 32 c.args.self.now.nodes c.args.ino.0 = c.read_names_up.ensures ∙ ap (λ (t : Nodes). names_up 32 t.nodes c.args.ino.0) c.self.view_is in
    let none : names ≡ [] = nil_from_length names (eqb-true (length names) 0 (sym c.is_empty.ensures ∙ c.if-is_empty.true)) in
    path_when c.args.self.now.nodes c.args.ino.0 Here (sym c.presence.ensures ∙ c.in-Here.is)
    ∙ ap (λ up. Some (reverse up)) (sym walk ∙ none) ∙ ap Some (sym none)

pub returns-in_default : goal.returns-in_default
returns-in_default c =
    path_when c.args.self.now.nodes c.args.ino.0 c.presence.result (sym c.presence.ensures)
    ∙ no_path_at c.presence.result (names_up 32 c.args.self.now.nodes c.args.ino.0) c.in_default.not-Here

pub returns : goal.returns
returns c =
    let nodes : InodeMap = c.args.self.now.nodes in
    let ino : ℕ = c.args.ino.0 in
    let walk : c.read_names_up.new.names ≡ names_up 32 nodes ino = c.read_names_up.ensures ∙ ap (λ (t : Nodes). names_up 32 t.nodes ino) c.self.view_is in
    let some : (length (names_up 32 nodes ino) == 0) ≡ false = ap (λ names. length names == 0) (sym walk) ∙ sym c.is_empty.ensures ∙ c.if-is_empty.false in
    let here : presence nodes ino ≡ Here = here_when (site_of nodes ino) _ (ap (λ names. length names == 0) (sym (names_up-step 32 nodes ino (omega arith))) ∙ some) in
    path_when nodes ino Here here ∙ ap (λ up. Some (reverse up)) (sym walk) ∙ ap Some (sym c.reverse.ensures)
