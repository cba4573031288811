-- Histories: what rows lead to, and when they are legal.
use Rattle.std.specs.Option.{option_map}
use Rattle.std.specs.Prelude.{length, ◌≤◌, ◌≡◌, ◌≢◌, ℕ, ◌+◌, List, [], ◌∷◌, ◌++◌}
use Rattle.std.specs.FinMap as map
use Rattle.std.specs.FinSet as set
use Rattle.capbits.specs.declared.ids.PassId.{PassId}
use Rattle.inotree.specs.Tree.{Nodes, presence}
use Rattle.inotree.specs.declared.node.Presence.TheVariants.{Gone}
use Rattle.captable.specs.Table as table
use Rattle.capstep.specs.declared.event.Event.{Event}
use Rattle.capstep.specs.declared.outcome.Ended.{Ended}
use Rattle.capstep.specs.declared.reply.Reply.{Reply}
use Rattle.capstep.specs.declared.row.Row.{Row}
use Rattle.policy_view.specs.declared.change.ViewChange.{ViewChange}
use Rattle.lockmachine.specs.Inodes.{in_sync}
use Rattle.capstep.specs.Numbers.{AreNumbered, rows_of}
use Rattle.capstep.specs.Settle.{Made}
use Rattle.capstep.specs.Shown.{AreShown}
use Rattle.capstep.specs.Sound.{AreGiven, IsSound}
use Rattle.capstep.specs.State.{State}
use Rattle.capstep.specs.Step.{Step, StepBy}

-- a state, the history that led to it, how many rows it may have, and what the last step changed of what readers see
pub record CoreValue : Type 0 where
  pub state : State
  pub rows : List Row
  pub max_rows : ℕ
  pub changes : List ViewChange

-- what a core has, as one value
abbrev pub core_value : State → List Row → ℕ → List ViewChange → CoreValue
core_value state rows max_rows changes = record { state = state; rows = rows; max_rows = max_rows; changes = changes }

-- ---- the opening state

-- the tree has no stray
abbrev pub HasNoStray : Nodes → Type 0
HasNoStray tree = (ino : ℕ) → presence tree.nodes ino ≢ Gone

-- on this file system and tree nobody is connected, nobody has an entry, nobody waits or has waited, and each lock is in SYNC
pub record IsOpening (fs : List ℕ) (tree : Nodes) (s : State) : Type 0 where
  pub fs_is : s.scene.fs ≡ fs
  pub tree_is : s.scene.tree ≡ tree
  pub sessions_are : s.scene.sessions ≡ record { sessions = map.empty; blocked = set.empty }
  pub table_is : s.scene.table ≡ table.empty
  pub locks_are : (ino : ℕ) → map.get s.scene.locks.states ino ≡ option_map (λ node. in_sync) (map.get tree.nodes ino)
  pub queue_is : s.scene.locks.queue ≡ []
  pub last_is : s.scene.locks.last ≡ 0
  pub messages_are : s.messages ≡ []

-- ---- histories

-- the rows lead from one state to another, a step each
abbrev pub Replays : State → List Row → State → Type 0
Replays first [] last = last ≡ first
Replays first (row ∷ rows) last = (mid : State) × Step first row.event row.reply row.ended mid × Replays mid rows last

-- the rows lead from the first state to the last, a step each, and are numbered
pub record IsLegal (first : State) (rows : List Row) (last : State) : Type 0 where
  pub replays : Replays first rows last
  pub numbered : AreNumbered rows

-- ---- one more row

abbrev pub made_row : PassId → ℕ → Event → Reply → List Ended → Row
made_row pass nth e reply ended = record { pass = pass; nth = nth; event = e; reply = reply; ended = ended }

-- the event is one step, by these moves, and adds its row, which says which requests of earlier steps it ended
pub record IsNext (old : CoreValue) (pass : PassId) (e : Event) (reply : Reply) (new : CoreValue) : Type 0 where
  pub moves : List Made
  pub ended : List Ended
  pub step : StepBy old.state e moves reply ended new.state
  pub rows : new.rows ≡ old.rows ++ made_row pass (rows_of pass old.rows + 1) e reply ended ∷ []
  pub max_rows : new.max_rows ≡ old.max_rows

-- ---- what every core keeps

-- the history is legal, led here from some opening state and is not longer than it may be; the state is sound, with the
-- numbers that so many rows can give; and the numbers of each entry say what its client was last shown
pub record IsLegalCore (core : CoreValue) : Type 0 where
  pub fs : List ℕ
  pub tree : Nodes
  pub no_strays : HasNoStray tree
  pub opening : State
  pub is_opening : IsOpening fs tree opening
  pub legal : IsLegal opening core.rows core.state
  pub room : length core.rows ≤ core.max_rows
  pub sound : IsSound core.state
  pub given : AreGiven (length core.rows) core.state
  pub shown : AreShown core.rows core.state.scene
