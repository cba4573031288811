-- What stands under the lock.
use Rattle.std.specs.Prelude.{◌≡◌, ◌≤◌, ℕ, false, length}
use mathlib.Core.List.{IsPrefix}
use Rattle.capstep.specs.State.{State}
use Rattle.capstep.specs.History.{CoreValue, Replays}
use Rattle.policy_view.specs.Visible.{Shows}
use Rattle.capstep.specs.Noted.{view_of}
use Rattle.snapshot.specs.Publishing.{Publishing}

-- the history leads from the opening state to that of the core, and takes as many rows as the opening said
pub record IsLed (opening : State) (max_rows : ℕ) (core : CoreValue) : Type 0 where
  pub replays : Replays opening core.rows core.state
  pub max_rows_is : core.max_rows ≡ max_rows

-- As many calls were counted as the history has rows. The rows that are in the book begin it. Unless a stage was lost, they are the
-- whole history, and what readers are to see next shows the state of the core.
pub record IsHeld (core : CoreValue) (calls : ℕ) (next : Publishing) : Type 0 where
  pub counted : calls ≡ length core.rows
  pub room : core.max_rows ≤ 4294967295
  pub begins : IsPrefix next.rows core.rows
  pub whole : next.lost ≡ false → next.rows ≡ core.rows
  pub shows : next.lost ≡ false → Shows next.view (view_of core.state)
