-- What views answer, and what readers are told.
use Rattle.std.specs.Prelude.{◌≡◌, ℕ, Option, Some, None, IsSome, List, [], ◌∷◌, codes, refl}
use Rattle.std.specs.FinMap as map
use Rattle.std.specs.Option.{option_map}
use Rattle.std.proofs.Common.{subst, sym}
use Rattle.capgrant.specs.declared.access.Attr.{Attr}
use Rattle.inotree.specs.Alike.{attr_of}
use Rattle.inotree.specs.Calls.{changed}
use Rattle.inotree.specs.Inodes.{with_attr, with_setting}
use Rattle.inotree.specs.Tree.{Nodes, path_of, presence, presence_at}
use Rattle.inotree.specs.declared.node.Node.{Node}
use Rattle.inotree.specs.declared.node.Presence.{Presence}
use Rattle.inotree.specs.declared.node.Presence.TheVariants.{Gone, Here, NoIno}
use Rattle.inotree.specs.declared.node.Setting.TheVariants.{Mode}
use Rattle.sessiontab.specs.Connected.{SessionMap, change_session}
use Rattle.sessiontab.specs.declared.session.Session.{Session}
use Rattle.policy_view.specs.Answers.{IsAnswer}
use Rattle.policy_view.specs.Changes.{AreChanges, view_by}
use Rattle.policy_view.specs.Visible.{ConnectedClient, connected_client, connected_client_of, visible_of}
use Rattle.policy_view.specs.declared.answer.Question.{Question}
use Rattle.policy_view.specs.declared.change.ViewChange.{ViewChange}
use Rattle.policy_view.specs.declared.view.View.{View}
use Rattle.policy_view.proofs.Answering.{here-path}
use Rattle.policy_view.proofs.Likeness.{clients-unseen, like-settled, like-unseen, shows-sessions, shows-tree}
use Rattle.policy_view.proofs.Telling.{changes-alike, changes-more, changes-none}
use Rattle.capstep.specs.NotedChanges.{view}
use Rattle.tests_core.specs.Trees.{root_alone, with_file}
use Rattle.tests_core.specs.Verdicts.{owned}
use Rattle.tests_core.specs.Views.{answer, answered, is_ended, is_forgotten, is_settled, view_after}
use Rattle.tests_core.proofs.ByNumber.{get-more}

-- an inode that is present has an owner, a group and a mode
here-attr : (node : Option Node) → presence_at (option_map (λ n. n.site) node) ≡ Here → option_map (λ n. n.attr) node ≡ None → ⊥
here-attr None here none = cc
here-attr (Some node) here none = cc

module _ (seen : View) (asked : Question) where
  by_parts : (by : Option ConnectedClient) → connected_client seen.sessions asked.client.0 ≡ by
      → (stands : Presence) → presence seen.tree.nodes asked.ino.0 ≡ stands
      → (path : Option (List (List ℕ))) → path_of seen.tree.nodes asked.ino.0 ≡ path
      → (attr : Option Attr) → attr_of seen.tree.nodes asked.ino.0 ≡ attr
      → (stands ≡ Here → path ≡ None → ⊥) → (stands ≡ Here → attr ≡ None → ⊥)
      → IsAnswer (codes "cephfs") seen asked (answered by stands path attr asked.access)
  by_parts None by_is stands stands_is path path_is attr attr_is has_path has_attr = by_is
  by_parts (Some by) by_is NoIno stands_is path path_is attr attr_is has_path has_attr = (subst IsSome (sym by_is) refl, stands_is)
  by_parts (Some by) by_is Gone stands_is path path_is attr attr_is has_path has_attr = (subst IsSome (sym by_is) refl, stands_is)
  by_parts (Some by) by_is Here stands_is (Some path) path_is (Some attr) attr_is has_path has_attr =
      record { by = by; path = path; attr = attr; by_is = by_is; path_is = path_is; attr_is = attr_is; verdict_is = refl }
  by_parts (Some by) by_is Here stands_is (Some path) path_is None attr_is has_path has_attr = has_attr refl refl
  by_parts (Some by) by_is Here stands_is None path_is attr attr_is has_path has_attr = has_path refl refl

  pub is_answer : IsAnswer (codes "cephfs") seen asked (answer seen asked)
  is_answer =
      by_parts _ refl _ refl _ refl _ refl (here-path seen.tree.nodes asked.ino.0) (here-attr (map.get seen.tree.nodes asked.ino.0))

-- ---- what is told

-- one change
pub one : (old : View) (c : ViewChange) → AreChanges (c ∷ []) old (view_by old c)
one old c = changes-more [] old old c (changes-none old)

-- a change of an inode of which nothing is seen
pub unseen-inode : (tree : Nodes) (sessions : SessionMap) (f : Node → Node) (ino : ℕ) → ((node : Node) → visible_of (f node) ≡ visible_of node)
    → AreChanges [] (view tree sessions) (view (changed f tree ino) sessions)
unseen-inode tree sessions f ino same =
    changes-alike [] (view tree sessions) (view tree sessions) (view (changed f tree ino) sessions) (changes-none (view tree sessions))
    (shows-tree tree (changed f tree ino) sessions (like-unseen tree f ino same))

-- a change of a session of which nothing is seen
pub unseen-session : (tree : Nodes) (sessions : SessionMap) (f : Session → Session) (client : ℕ)
    → ((session : Session) → connected_client_of (f session) ≡ connected_client_of session)
    → AreChanges [] (view tree sessions) (view tree (change_session f sessions client))
unseen-session tree sessions f client same =
    changes-alike [] (view tree sessions) (view tree sessions) (view tree (change_session f sessions client)) (changes-none (view tree sessions))
    (shows-sessions tree sessions (change_session f sessions client) (clients-unseen sessions f client same))

-- two changes
pub two : (old : View) (a b : ViewChange) → AreChanges (a ∷ b ∷ []) old (view_by (view_by old a) b)
two old a b = changes-more (a ∷ []) old (view_by old a) b (one old a)

-- a client goes, and takes four strays along
pub client_goes : (old : View) → AreChanges (is_ended 1 ∷ is_forgotten 2 ∷ is_forgotten 3 ∷ is_forgotten 4 ∷ is_forgotten 6 ∷ []) old
    (view_after old (is_ended 1 ∷ is_forgotten 2 ∷ is_forgotten 3 ∷ is_forgotten 4 ∷ is_forgotten 6 ∷ []))
client_goes old =
    changes-more (is_ended 1 ∷ is_forgotten 2 ∷ is_forgotten 3 ∷ is_forgotten 4 ∷ []) old (view_after old (is_ended 1 ∷ is_forgotten 2 ∷ is_forgotten 3 ∷ is_forgotten 4 ∷ [])) (is_forgotten 6)
    (changes-more (is_ended 1 ∷ is_forgotten 2 ∷ is_forgotten 3 ∷ []) old (view_after old (is_ended 1 ∷ is_forgotten 2 ∷ is_forgotten 3 ∷ [])) (is_forgotten 4)
    (changes-more (is_ended 1 ∷ is_forgotten 2 ∷ []) old (view_after old (is_ended 1 ∷ is_forgotten 2 ∷ [])) (is_forgotten 3) (two old (is_ended 1) (is_forgotten 2))))

-- an inode is settled in the mode that it was given
mode_then : attr_of (changed (with_setting (Mode 0o600)) (with_file root_alone 1 (codes "g")) 2).nodes 2 ≡ Some (owned 1 1 0o600)
mode_then = simp get-more refl

pub mode_is_told : (sessions : SessionMap) → AreChanges (is_settled 2 (owned 1 1 0o600) ∷ []) (view (with_file root_alone 1 (codes "g")) sessions)
    (view (changed (with_setting (Mode 0o600)) (with_file root_alone 1 (codes "g")) 2) sessions)
mode_is_told sessions =
    let tree : Nodes = with_file root_alone 1 (codes "g") in
    let settled : Nodes = changed (with_attr (owned 1 1 0o600)) tree 2 in
    let altered : Nodes = changed (with_setting (Mode 0o600)) tree 2 in
    changes-alike (is_settled 2 (owned 1 1 0o600) ∷ []) (view tree sessions) (view settled sessions) (view altered sessions)
    (one (view tree sessions) (is_settled 2 (owned 1 1 0o600)))
    (shows-tree settled altered sessions (like-settled tree (with_setting (Mode 0o600)) 2 (owned 1 1 0o600) (λ _. refl) (λ _. refl) mode_then))
