-- One serving by its number, and a settling with all that it served.
use Rattle.std.specs.Prelude.{◌≡◌, ℕ, Bool, List, Some}
use Rattle.capbits.specs.declared.ids.Ino.{Ino}
use Rattle.capbits.specs.declared.ids.Ticket.{Ticket}
use Rattle.inotree.specs.Tree.{IsTree}
use Rattle.captable.specs.declared.entry.Holder.{Holder}
use Rattle.capstep.specs.declared.outcome.Ended.{Ended}
use Rattle.capstep.specs.Changing.{tree_after}
use Rattle.capstep.specs.Finish.{sizes_owed}
use Rattle.capstep.specs.Serving.{MayEndAs}
use Rattle.capstep.specs.Settle.{Made, ended_in, sized_in}
use Rattle.step_acts.specs.Known.{ClientViews, KnownAnew, known_in, permitted_of}
use Rattle.lockmachine.specs.Locks.{request_at, without_request}
use Rattle.lockmachine.specs.Scene.{Scene}
use Rattle.lockmachine.specs.declared.request.Request.{Request}
use Rattle.capcore.specs.Affected.{SettlesAt, finished_at, pending_then}
use Rattle.capcore.specs.Begun.{ArePermittedIn}

-- the request with this number is served, ends so and waits no more
pub record Serves (old : Scene) (ticket : Ticket) (ended : Ended) (new : Scene) : Type 0 where
  pub request : Request
  pub waits : request_at old.locks ticket.0 ≡ Some request
  pub may : MayEndAs old request ended.outcome
  pub ended_is : ended ≡ record { client = request.client; ticket = request.ticket; outcome = ended.outcome }
  pub is : new ≡ record old { tree = tree_after old.tree request ended.outcome; locks = without_request old.locks ticket.0 }

-- by some moves the locks settle, nothing changes but at these inodes, among which are those of the event, these requests end, in
-- this order, and the sizes of these inodes change
pub record SettlesWith (at from : ℕ → Bool) (first settled : Scene) (ended : List Ended) (sized : List Ino) : Type 0 where
  pub moves : List Made
  pub settles : SettlesAt at from moves first settled
  pub ended_is : ended ≡ ended_in moves
  pub sized_is : sized ≡ sized_in moves

-- the locks have settled and the sizes of these inodes changed: the step ends at those that it affected. What is permitted is kept
pub record EndsAt (at : ℕ → Bool) (sized : List Ino) (was now : ClientViews) (settled last : Scene) : Type 0 where
  pub finished : last ≡ finished_at at (known_in was) (sizes_owed sized settled)
  pub kept : KnownAnew (λ k. at k.ino.0) (pending_then (sizes_owed sized settled)) (sizes_owed sized settled).table was now
  pub permitted : (k : Holder) → permitted_of now k ≡ permitted_of was k

-- the event was about these inodes: the locks settle, these requests end, and the step ends at the inodes that it affected. What
-- was known of entries is kept in `was`, and what is known of them at the end in `now`, and what their clients are permitted
pub record EndsWith (from : ℕ → Bool) (was now : ClientViews) (first last : Scene) (ended : List Ended) : Type 0 where
  pub at : ℕ → Bool
  pub settled : Scene
  pub sized : List Ino
  pub settles : SettlesWith at from first settled ended sized
  pub tree : IsTree settled.tree
  pub finished : last ≡ finished_at at (known_in was) (sizes_owed sized settled)
  pub kept : KnownAnew (λ k. at k.ino.0) (pending_then (sizes_owed sized settled)) (sizes_owed sized settled).table was now
  pub permitted : ArePermittedIn now last
