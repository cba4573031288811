-- What a question on policy is answered by a view.
use Rattle.std.specs.Prelude.{◌≡◌, ℕ, List, Some, None, IsSome, Result, Ok, Err}
use Rattle.capgrant.specs.declared.access.Attr.{Attr}
use Rattle.capgrant.specs.declared.answer.Verdict.{Verdict}
use Rattle.capgrant.specs.Question.{question}
use Rattle.capgrant.specs.Verdict.{verdict_of}
use Rattle.inotree.specs.declared.node.Presence.TheVariants.{Gone, NoIno}
use Rattle.inotree.specs.Alike.{attr_of}
use Rattle.inotree.specs.Tree.{path_of, presence}
use Rattle.policy_view.specs.declared.answer.Question.{Question}
use Rattle.policy_view.specs.declared.answer.Unknown.{Unknown}
use Rattle.policy_view.specs.declared.answer.Unknown.TheVariants as unknown
use Rattle.policy_view.specs.declared.view.View.{View}
use Rattle.policy_view.specs.Visible.{ConnectedClient, connected_client}

-- the client is connected
abbrev pub IsConnected : View → Question → Type 0
IsConnected view asked = IsSome (connected_client view.sessions asked.client.0)

-- the verdict of the client's grants on the access, by the inode's path, owner, group and mode
pub record IsJudged (fs : List ℕ) (view : View) (asked : Question) (verdict : Verdict) : Type 0 where
  pub by : ConnectedClient
  pub path : List (List ℕ)
  pub attr : Attr
  pub by_is : connected_client view.sessions asked.client.0 ≡ Some by
  pub path_is : path_of view.tree.nodes asked.ino.0 ≡ Some path
  pub attr_is : attr_of view.tree.nodes asked.ino.0 ≡ Some attr
  pub verdict_is : verdict ≡ verdict_of (question fs by.caller path attr asked.access) by.grants

-- first whether the client is connected, then whether there is such an inode, then whether it has a path, then the verdict
abbrev pub IsAnswer : List ℕ → View → Question → Result Verdict Unknown → Type 0
IsAnswer fs view asked (Err unknown.NoSession) = connected_client view.sessions asked.client.0 ≡ None
IsAnswer fs view asked (Err unknown.NoIno) = IsConnected view asked × (presence view.tree.nodes asked.ino.0 ≡ NoIno)
IsAnswer fs view asked (Err unknown.Gone) = IsConnected view asked × (presence view.tree.nodes asked.ino.0 ≡ Gone)
IsAnswer fs view asked (Err unknown.NoView) = ⊥
IsAnswer fs view asked (Ok verdict) = IsJudged fs view asked verdict
