use Rattle.std.proofs.Common.{◌≡◌, ℕ, Bool, List, None, Some, reverse, ap, subst, ◌∙◌, All}
use Rattle.std.specs.Prelude.{if◌then◌else◌}
use Rattle.inotree.specs.declared.node.Presence.{Presence}
use Rattle.inotree.specs.declared.node.Presence.TheVariants.{Gone, Here, NoIno}
use Rattle.inotree.proofs.Leading.{path_leads}
use Rattle.inotree.proofs.Naming.{IsName, names_of_walk, turned_names}
use Rattle.inotree.specs.Inodes.{InodeMap}
use Rattle.inotree.specs.Tree.{IsTree, names_up, path_at, path_of, presence}
use Rattle.inotree.proofs.tree.Tree.path_of.Goals as goal

-- a path is the walk up, turned round
turned : (p : Presence) (up names : List (List ℕ)) → path_at p up ≡ Some names → names ≡ reverse up
turned NoIno up names is = cc
turned Gone up names is = cc
turned Here up names is = cc

path_turned : (nodes : InodeMap) (ino : ℕ) (names : List (List ℕ)) → path_of nodes ino ≡ Some names → names ≡ reverse (names_up 32 nodes ino)
unfolding path_of
path_turned nodes ino names is = turned (presence nodes ino) (names_up 32 nodes ino) names is

path_is : (c : goal.Then-read_path) → path_of c.args.self.now.nodes c.args.ino.0 ≡ Some c.read_path.new.names
path_is c = c.read_path.ensures ∙ ap (λ (there : Bool). if there then Some c.read_path.new.names else None) c.if-read_path.true

tree_is : (c : goal.Then-read_path) → IsTree c.args.self.now
tree_is c = subst IsTree c.self.view_is c.self.invariant.0

pub returns-then-read_path-clause-leads : goal.returns-then-read_path-clause-leads
returns-then-read_path-clause-leads c = path_leads c.args.self.now (tree_is c) c.args.ino.0 c.read_path.new.names (path_is c)

pub returns-then-read_path-clause-names : goal.returns-then-read_path-clause-names
returns-then-read_path-clause-names c =
    let up : All IsName (names_up 32 c.args.self.now.nodes c.args.ino.0) = names_of_walk c.args.self.now (tree_is c) 32 c.args.ino.0 in
    rw (path_turned c.args.self.now.nodes c.args.ino.0 c.read_path.new.names (path_is c)) (turned_names (names_up 32 c.args.self.now.nodes c.args.ino.0) up)
