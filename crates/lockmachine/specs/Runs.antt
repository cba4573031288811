-- The moves that locks make between two servings.
use Rattle.std.specs.Prelude.{◌≡◌, ◌≢◌, ◌≤◌, ℕ, Bool, true, false, ◌&&◌, ◌==◌, IsTrue, List, [], ◌∷◌, count_by}
use Rattle.std.specs.List.{AllPass}
use Rattle.capbits.specs.declared.cap.Part.{Part}
use Rattle.lockmachine.specs.declared.moves.Move.{Move}
use Rattle.lockmachine.specs.declared.moves.Move.TheVariants.{Begin, End, Serve, Settled}
use Rattle.lockmachine.specs.Requests.{same_part}
use Rattle.lockmachine.specs.Locks.{LockMap, lock_at}
use Rattle.lockmachine.specs.Scene.{Scene}
use Rattle.lockmachine.specs.Moves.{LockId, first_move, with_moved}

-- the move begins or ends a gather
abbrev pub is_of_lock : Move → Bool
is_of_lock (Begin ino part to) = true
is_of_lock (End ino part) = true
is_of_lock (Serve ticket) = false
is_of_lock Settled = false

-- gathers begin and end one after another, each by the first move that applies
abbrev pub Runs : Scene → List Move → Scene → Type 0
Runs old [] new = new ≡ old
Runs old (step ∷ steps) new = (first_move old ≡ step) × IsTrue (is_of_lock step) × Runs (with_moved old step) steps new

-- the move begins a gather of this lock
abbrev pub is_begin_of : LockId → Move → Bool
is_begin_of at (Begin ino part to) = (at.0 == ino.0) && same_part at.1 part
is_begin_of at (End ino part) = false
is_begin_of at (Serve ticket) = false
is_begin_of at Settled = false

-- the move ends a gather of this lock
abbrev pub is_end_of : LockId → Move → Bool
is_end_of at (Begin ino part to) = false
is_end_of at (End ino part) = (at.0 == ino.0) && same_part at.1 part
is_end_of at (Serve ticket) = false
is_end_of at Settled = false

-- each lock begins at most one gather and ends at most two
pub record AreFew (steps : List Move) : Type 0 where
  pub begun : (at : LockId) → count_by (is_begin_of at) steps ≤ 1
  pub ended : (at : LockId) → count_by (is_end_of at) steps ≤ 2

-- some such moves lead from one scene to the other
abbrev pub MoveLittle : Scene → Scene → Type 0
MoveLittle old new = (steps : List Move) × AreFew steps × Runs old steps new

-- the move ends a gather
abbrev pub is_end : Move → Bool
is_end (Begin ino part to) = false
is_end (End ino part) = true
is_end (Serve ticket) = false
is_end Settled = false

-- some such moves lead from one scene to the other, and each of them ends a gather
abbrev pub EndLittle : Scene → Scene → Type 0
EndLittle old new = (steps : List Move) × AllPass is_end steps × AreFew steps × Runs old steps new

-- the locks of all other inodes are as they were, and so are the queue and the last number
pub record ChangesLocksOf (ino : ℕ) (old new : LockMap) : Type 0 where
  pub others : (other : ℕ) (part : Part) → other ≢ ino → lock_at new other part ≡ lock_at old other part
  pub queue : new.queue ≡ old.queue
  pub last : new.last ≡ old.last
