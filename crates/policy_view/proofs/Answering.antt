-- What a view answers, each view answers that it shows.
use Rattle.std.proofs.Common.{◌≡◌, ℕ, List, Result, Ok, Err, Some, None, IsSome, sym, ap, subst, ◌∙◌}
use Rattle.std.specs.FinMap as map
use Rattle.std.specs.Option.{option_map}
use Rattle.capgrant.specs.declared.answer.Verdict.{Verdict}
use Rattle.capgrant.specs.Question.{question}
use Rattle.capgrant.specs.Verdict.{verdict_of}
use Rattle.inotree.specs.declared.node.Node.{Node}
use Rattle.inotree.specs.declared.node.Presence.TheVariants.{Here}
use Rattle.inotree.specs.Inodes.{InodeMap}
use Rattle.inotree.specs.Tree.{names_up, path_at, path_of, presence}
use Rattle.sessiontab.specs.declared.session.Session.{Session}
use Rattle.policy_view.specs.declared.answer.Question.{Question}
use Rattle.policy_view.specs.declared.answer.Unknown.{Unknown}
use Rattle.policy_view.specs.declared.answer.Unknown.TheVariants as unknown
use Rattle.policy_view.specs.declared.view.View.{View}
use Rattle.policy_view.specs.Answers.{IsAnswer, IsConnected, IsJudged}
use Rattle.policy_view.specs.Visible.{Shows, connected_client_of}
use Rattle.policy_view.proofs.Likeness.{like-attr, like-path, like-presence}

module _ (fs : List ℕ) (a b : View) (asked : Question) (shows : Shows a b) where
  connected : IsConnected a asked → IsConnected b asked
  connected there = subst IsSome (shows.sessions.each asked.client.0) there

  pub like-answer : (r : Result Verdict Unknown) → IsAnswer fs a asked r → IsAnswer fs b asked r
  like-answer (Err unknown.NoSession) is = sym (shows.sessions.each asked.client.0) ∙ is
  like-answer (Err unknown.NoIno) is = (connected is.0, sym (like-presence a.tree b.tree asked.ino.0 shows.tree) ∙ is.1)
  like-answer (Err unknown.Gone) is = (connected is.0, sym (like-presence a.tree b.tree asked.ino.0 shows.tree) ∙ is.1)
  like-answer (Err unknown.NoView) is = is
  like-answer (Ok verdict) is = record {
    by = is.by;
    path = is.path;
    attr = is.attr;
    by_is = sym (shows.sessions.each asked.client.0) ∙ is.by_is;
    path_is = sym (like-path a.tree b.tree asked.ino.0 shows.tree) ∙ is.path_is;
    attr_is = sym (like-attr a.tree b.tree asked.ino.0 shows.tree) ∙ is.attr_is;
    verdict_is = is.verdict_is;
  }

-- an inode that is present in the tree has a path
pub here-path : (nodes : InodeMap) (ino : ℕ) → presence nodes ino ≡ Here → path_of nodes ino ≡ None → ⊥
unfolding path_of
here-path nodes ino here none = let is : path_at Here (names_up 32 nodes ino) ≡ None = ap (λ p. path_at p (names_up 32 nodes ino)) (sym here) ∙ none in cc

-- the verdict on an inode that has a path, by a session
pub judged_by : (fs : List ℕ) (view : View) (asked : Question) (session : Session) (path : List (List ℕ)) (node : Node) (verdict : Verdict)
    → map.get view.sessions asked.client.0 ≡ Some session → path_of view.tree.nodes asked.ino.0 ≡ Some path → map.get view.tree.nodes asked.ino.0 ≡ Some node
    → verdict ≡ verdict_of (question fs session.caller path node.attr asked.access) session.grants → IsJudged fs view asked verdict
judged_by fs view asked session path node verdict session_is path_is node_is verdict_is = record {
  by = connected_client_of session;
  path = path;
  attr = node.attr;
  by_is = ap (option_map connected_client_of) session_is;
  path_is = path_is;
  attr_is = ap (option_map (λ (n : Node). n.attr)) node_is;
  verdict_is = verdict_is;
}
