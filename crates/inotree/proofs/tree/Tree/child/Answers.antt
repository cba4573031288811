use Rattle.std.proofs.Common.{◌≡◌, ℕ, List, length, None, inl, inr, sym, ap, ◌∙◌}
use Rattle.std.proofs.lemmas.Bool.{cases_lt}
use Rattle.std.specs.FinMap as map
use Rattle.std.specs.Option.{option_map}
use Rattle.capbits.specs.declared.ids.Ino.{Ino}
use Rattle.inotree.specs.Tree.{Nodes, child}
use Rattle.inotree.proofs.Named.{child-index}
use Rattle.inotree.proofs.Passing.{long_child}
use Rattle.inotree.proofs.tree.Tree.child.Goals as goal

pub returns-in_err-name : goal.returns-in_err-name
returns-in_err-name c =
    let a : List ℕ = c.args.name.now in
    let none : child c.self.inside.inodes c.args.dir.0 a ≡ None = elim (cases_lt 255 (length a)) [
      | inl long ↦ long_child c.self.inside.inodes c.self.inside.last c.self.inside.names c.self.invariant.0 c.self.invariant.1.0 c.args.dir.0 a long
      | inr short ↦ let read = c.in_err-name.ensures.valid.1 short in cc
    ] in
    ap (option_map (λ (i : Ino). i.0)) c.from_residual.ensures ∙ sym none ∙ ap (λ (t : Nodes). child t.nodes c.args.dir.0 a) c.self.view_is

pub returns-in_err-ino : goal.returns-in_err-ino
returns-in_err-ino c =
    ap (option_map (λ (i : Ino). i.0)) c.from_residual-in_err-ino.ensures ∙ c.in_err-ino.ensures
    ∙ ap (λ a. map.get c.self.inside.names (record { dir = c.args.dir.0; name = a })) c.in_ok-name.ensures.value
    ∙ sym (child-index c.self.inside.inodes c.self.inside.names c.self.invariant.1.0 c.args.dir.0 c.args.name.now)
    ∙ ap (λ (t : Nodes). child t.nodes c.args.dir.0 c.args.name.now) c.self.view_is

pub returns : goal.returns
returns c =
    c.in_ok-ino.ensures
    ∙ ap (λ a. map.get c.self.inside.names (record { dir = c.args.dir.0; name = a })) c.in_ok-name.ensures.value
    ∙ sym (child-index c.self.inside.inodes c.self.inside.names c.self.invariant.1.0 c.args.dir.0 c.args.name.now)
    ∙ ap (λ (t : Nodes). child t.nodes c.args.dir.0 c.args.name.now) c.self.view_is
