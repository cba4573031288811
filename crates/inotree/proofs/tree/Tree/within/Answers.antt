use Rattle.std.proofs.Common.{◌≡◌, true, List, ◌++◌, All, Contains, sym, ap, subst, ◌∙◌, arith}
use Rattle.capbits.specs.declared.ids.Ino.{Ino}
use Rattle.inotree.specs.Index.{gathered}
use Rattle.inotree.specs.Tree.{Nodes, is_within}
use Rattle.inotree.proofs.Gathering.{all-gathered, only-gathered}
use Rattle.inotree.proofs.Named.{index_directories, index_inodes}
use Rattle.inotree.proofs.tree.Tree.within.Goals as goal

pub gather-requires-clause-inside : goal.gather-requires-clause-inside
gather-requires-clause-inside c = index_directories c.self.inside.inodes c.self.inside.names c.self.invariant.1.0 c.self.inside.last c.self.invariant.0

pub gather-requires-clause-names : goal.gather-requires-clause-names
gather-requires-clause-names c = index_inodes c.self.inside.inodes c.self.inside.names c.self.invariant.1.0 c.self.inside.last c.self.invariant.0 (omega arith)

pub returns-clause-all : goal.returns-clause-all
returns-clause-all c = λ other within.
    let items : c.gather.new.found.items ≡ gathered 32 c.self.inside.names c.args.ino.0 = c.in_ok-gather.ensures ∙ ap (λ (inos : List Ino). inos ++ gathered 32 c.self.inside.names c.args.ino.0) c.new-inos.ensures.items in
    let before : is_within c.self.inside.inodes other c.args.ino.0 ≡ true = ap (λ (t : Nodes). is_within t.nodes other c.args.ino.0) c.self.view_is ∙ within in
    subst (λ (inos : List Ino). Contains inos (record { 0 = other })) (sym items)
    (all-gathered (record { nodes = c.self.inside.inodes; last = c.self.inside.last }) c.self.invariant.0 c.self.inside.names c.self.invariant.1.0 c.args.ino.0 other before)

pub returns-clause-only : goal.returns-clause-only
returns-clause-only c =
    let items : c.gather.new.found.items ≡ gathered 32 c.self.inside.names c.args.ino.0 = c.in_ok-gather.ensures ∙ ap (λ (inos : List Ino). inos ++ gathered 32 c.self.inside.names c.args.ino.0) c.new-inos.ensures.items in
    subst (λ (t : Nodes). All (λ (other : Ino). is_within t.nodes other.0 c.args.ino.0 ≡ true) c.gather.new.found.items) c.self.view_is
    (subst (All (λ (other : Ino). is_within c.self.inside.inodes other.0 c.args.ino.0 ≡ true)) (sym items)
    (only-gathered (record { nodes = c.self.inside.inodes; last = c.self.inside.last }) c.self.invariant.0 c.self.inside.names c.self.invariant.1.0 c.args.ino.0))
