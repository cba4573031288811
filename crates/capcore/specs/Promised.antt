-- What is promised of an event that was answered, part by part. The core promises it, and so does a server of each event that it makes
-- under its lock: both name this record, so that neither can promise less.
use Rattle.std.specs.Prelude.{◌≡◌, IsTrue}
use Rattle.capbits.specs.declared.ids.PassId.{PassId}
use Rattle.capstep.specs.declared.event.Event.{Event}
use Rattle.capstep.specs.declared.reply.Reply.{Reply}
use Rattle.capstep.specs.Direct.{begun}
use Rattle.capstep.specs.Headline.{AreBounded, AreInPlace, AreRevoked, DeniedExactly, IssuesExactly, NoneConflict, OtherLocksStay, ServedDenied, is_rejection}
use Rattle.capstep.specs.History.{CoreValue, IsNext, Replays}
use Rattle.capstep.specs.Noted.{view_of}
use Rattle.capstep.specs.Shown.{ShowsOnlyPermitted, ShowsWhatIsPending, TakesOnlySo, TakesUnshown}
use Rattle.capstep.specs.Sound.{IsSound}
use Rattle.capstep.specs.State.{State}
use Rattle.policy_view.specs.Changes.{AreChanges}
use Rattle.lockmachine.specs.Moves.{IsAtRest}

pub record IsPromised (old : CoreValue) (pass : PassId) (event : Event) (reply : Reply) (new : CoreValue) : Type 0 where
  -- one step of the rules, and one row. What is said of moves below is said of those that make this step
  pub next : IsNext old pass event reply new
  -- a request is denied exactly if it passes the tests that stand before policy and an access that it needs has no grant, and each
  -- denial names the first such access and the rule by which each grant fails
  pub denied : DeniedExactly old.state.scene event reply
  -- so are the requests that wait, when they are served. At most as many are served as wait, and between two of them each lock begins
  -- at most one gather and ends at most two
  pub served_denied : ServedDenied (begun old.state event) next.moves
  pub bounded : AreBounded (begun old.state event) next.moves
  -- locks change by these moves alone
  pub other_locks : OtherLocksStay new.state.scene.locks (begun old.state event) next.moves
  -- What is issued is what is wanted, permitted and allowed. What is held outside its lock's row is being revoked under an open gather,
  -- and what is held and not permitted is being revoked; and no two clients hold what may not be held together. Of these `lost`, and
  -- what `in_place` says of gathers, hold by the definition of "being revoked": what refuses a wrong step are the rows in `in_place`,
  -- and `shown` and `shown_permitted`
  pub issued : IssuesExactly (begun old.state event) new.state.scene
  pub in_place : AreInPlace new.state.scene
  pub lost : AreRevoked new.state.scene
  pub apart : NoneConflict new.state.scene
  -- Where no message is due for an entry, its client was last shown just what it is to know, and that is permitted. What an
  -- acknowledgement takes was missing from what was shown; and nothing else takes what is held, but a release and the end of a session.
  pub shown : ShowsWhatIsPending new.rows new.state.scene
  pub shown_permitted : ShowsOnlyPermitted new.rows new.state.scene
  pub unshown : TakesUnshown old.rows old.state.scene event (begun old.state event)
  pub only_so : TakesOnlySo old.state.scene event new.state.scene
  -- all that the state speaks of is there, and nothing is left to do
  pub sound : IsSound new.state
  -- locks are at rest, and a denial or a refusal changes nothing but the history
  pub at_rest : IsAtRest new.state.scene
  pub unchanged : IsTrue (is_rejection reply) → new.state ≡ old.state
  -- wherever the history began, it goes on from there
  pub legal : (first : State) → Replays first old.rows old.state → Replays first new.rows new.state
  -- what it says that it changed leads readers from what they saw to what there is to see
  pub changes : AreChanges new.changes (view_of old.state) (view_of new.state)
